-- Which clauses are the policy of which peer. Assumes nothing.
use Rattle.std.specs.Prelude.{ℕ, List, [], map, get_or}
use Rattle.policy.specs.Meant.{clause_of}
use Rattle.policy.specs.Policy.{Policy}
use Rattle.policy.specs.declared.Clause.{Clause}

-- the clauses of each peer stand in a row of their own; a peer behind the last has none, and no clause refers to a list
abbrev pub policy_at : List (List Clause) → ℕ → Policy
policy_at clauses i = map (clause_of []) (get_or clauses i [])
