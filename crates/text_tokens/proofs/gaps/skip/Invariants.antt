use Rattle.std.proofs.Common.{◌≡◌, drop}
use Rattle.text_tokens.specs.Meant.{mode_of}
use Rattle.text_tokens.specs.Tokens.{Between, scan}
use Rattle.text_tokens.proofs.gaps.skip.Given as goal

-- what is left is what there was
abbrev pub invariant-loop-at : goal.invariant-loop-at
invariant-loop-at l = scan (Between l.fresh) l.start (drop l.start l.text) ≡ scan (mode_of l.gap) l.at (drop l.at l.text)
