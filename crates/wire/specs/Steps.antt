-- One step of the recursions over a row of pieces. Assumes nothing.
use Rattle.std.specs.Prelude.{◌≡◌, ℕ, ◌<◌, ◌≤◌, true, false, List, [], ◌∷◌, length, take, drop}
use Rattle.wire.specs.Pieces.{pieces, overruns}

-- a row is its first piece and the row behind it
pub record PieceSteps (size : List ℕ → ℕ) : Type 0 where
  pub none : pieces size [] ≡ []
  pub fits_none : overruns size [] ≡ false
  pub first : (bs : List ℕ) → 0 < length bs → pieces size bs ≡ take (size bs) bs ∷ pieces size (drop (size bs) bs)
  pub over : (bs : List ℕ) → 0 < length bs → length bs < size bs → overruns size bs ≡ true
  pub next : (bs : List ℕ) → 0 < length bs → size bs ≤ length bs → overruns size bs ≡ overruns size (drop (size bs) bs)
