use Rattle.std.proofs.Common.{◌≡◌, false}
use Rattle.policy_clauses.specs.Meant.{names_of}
use Rattle.policy_clauses.specs.Reading.{part}
use Rattle.policy_clauses.specs.Sizes.{size}
use Rattle.text_tokens.specs.Meant.{left}
use Rattle.policy_clauses.proofs.conditions.part.Given as goal

-- what is left, negated so, is the part
abbrev pub invariant-loop-word : goal.invariant-loop-word
invariant-loop-word l = part (names_of l.names) l.negated (left l.reader) ≡ part (names_of l.names) false (left l.initial.reader)

abbrev pub decreases-loop-word : goal.decreases-loop-word
decreases-loop-word l = size (left l.reader)
