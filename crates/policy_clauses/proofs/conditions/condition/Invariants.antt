use Rattle.std.proofs.Common.{◌≡◌, ◌-◌, ◌≤◌, [], length}
use Rattle.policy.specs.Meant.{parts_of}
use Rattle.policy_clauses.specs.Meant.{names_of}
use Rattle.policy_clauses.specs.Reading.{parts}
use Rattle.text_tokens.specs.Meant.{left}
use Rattle.policy_clauses.proofs.conditions.condition.Given as goal

-- the parts so far and those that are left are all parts
abbrev pub invariant-loop-part : goal.invariant-loop-part
invariant-loop-part l = (parts (15 - length (parts_of l.condition)) (names_of l.names) (parts_of l.condition) (left l.reader) ≡ parts 15 (names_of l.names) [] (left l.initial.reader)) × (length (parts_of l.condition) ≤ 15)

abbrev pub decreases-loop-part : goal.decreases-loop-part
decreases-loop-part l = 16 - length (parts_of l.condition)
