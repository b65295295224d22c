-- What a buffer has at hand. Assumes nothing.
use Rattle.std.specs.Prelude.{◌≡◌, ℕ, ◌+◌, ◌-◌, List, length, take, drop}
use Rattle.intake.specs.declared.buffer.Buffer.{Buffer}

abbrev pub at_hand : Buffer → List ℕ
at_hand b = take (b.end - b.start) (drop b.start b.bytes)

-- n bytes have come behind those at hand
pub record Came (before : List ℕ) (n : ℕ) (after : List ℕ) : Type 0 where
  pub kept : take (length before) after ≡ before
  pub more : length after ≡ length before + n
