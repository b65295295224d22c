-- Where the clauses of each policy stand. Assumes nothing.
use Rattle.std.specs.Prelude.{ℕ, ◌+◌, Bool, true, List, map, take, drop, Some, None, Option, nat_le}
use Rattle.std.specs.List.{list_all}
use Rattle.std.specs.Option.{option_map}
use Rattle.policy.specs.declared.Clause.{Clause}
use Rattle.policy_clauses.specs.Meant.{written_of}
use Rattle.policy_clauses.specs.Reading.{Written}
use Rattle.policy_tables.specs.declared.Span.{Span}

-- a span does not go past n clauses
abbrev pub fits : ℕ → Option Span → Bool
fits n None = true
fits n (Some s) = nat_le (s.start + s.count) n

-- no span goes past n clauses
abbrev pub all_fit : ℕ → List (Option Span) → Bool
all_fit n spans = list_all (fits n) spans

-- the clauses of a span; none if the text does not name the policy
abbrev pub slot_policy : List Clause → Option Span → Option (List Written)
slot_policy pool s = option_map (λ p. map written_of (take p.count (drop p.start pool))) s
