use Rattle.std.proofs.Common.{◌≡◌, ℕ, ◌<◌, ◌≤◌, length, get_or}
use Rattle.text_tokens.specs.declared.Class.TheVariants.{Letter}
use Rattle.text_tokens.specs.Tokens.{class_of}
use Rattle.text_tokens.proofs.readers.word_end.Given as goal

-- all bytes so far are letters
abbrev pub invariant-loop-at : goal.invariant-loop-at
invariant-loop-at l = (l.start < l.at) × ((l.at ≤ length l.text) × ((k : ℕ) → l.start ≤ k → k < l.at → class_of (get_or l.text k 0) ≡ Letter))
