use Rattle.std.proofs.Common.{arith}
use Rattle.std.proofs.lemmas.Grind.{common_steps}
use Rattle.policy_words.proofs.Digits.{leading_more, leading_none}
use Rattle.policy_words.proofs.numbers.leading.Goals as goal
use Rattle.policy_words.proofs.numbers.leading.Goals.{in-Some+then-not-is_ascii_digit-2, in_default}

pub returns : goal.returns
returns c =
    elim c.match-split_first.branch [
      | in-Some+then-not-is_ascii_digit-2 w ↦ grind (arith, common_steps, leading_more)
      | in_default w ↦ grind (arith, common_steps, leading_none)
    ]
