use Rattle.std.proofs.Common.{◌≡◌, ◌-◌, ◌≤◌, min, true, eqb, [], map, length, take, drop}
use Rattle.policy_clauses.specs.Meant.{names_of, written_of}
use Rattle.policy_items.specs.Items.{clauses}
use Rattle.policy_items.specs.Meant.{stored}
use Rattle.text_tokens.specs.Meant.{left}
use Rattle.policy_items.proofs.Pool.read.Given as goal

-- the clauses so far and those that are left are all clauses, and those of the pool stay
abbrev pub invariant-loop-reader : goal.invariant-loop-reader
invariant-loop-reader l =
    (clauses (l.most - length (stored l.self)) (names_of l.names) (eqb (length (stored l.self)) l.start) (map written_of (drop l.start (stored l.self))) (left l.reader) ≡ clauses (min 256 (4096 - l.start)) (names_of l.names) true [] (left l.initial.reader))
    × ((take l.start (stored l.self) ≡ stored l.initial.self)
    × (l.start ≤ length (stored l.self)))

abbrev pub decreases-loop-reader : goal.decreases-loop-reader
decreases-loop-reader l = l.most - length (stored l.self)
