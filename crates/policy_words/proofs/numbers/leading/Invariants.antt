use Rattle.std.proofs.Common.{◌≡◌, length}
use Rattle.policy_words.specs.Words.{leading, leading_from}
use Rattle.policy_words.proofs.numbers.leading.Given as goal

-- the digits that are left decide
abbrev pub invariant-loop-digit : goal.invariant-loop-digit
invariant-loop-digit l = leading_from l.number l.left ≡ leading l.bytes

abbrev pub decreases-loop-digit : goal.decreases-loop-digit
decreases-loop-digit l = length l.left
