-- Rows of pieces, as prefixes, attributes, path segments and capabilities stand in a message: each piece tells its size by its first bytes. Assumes nothing.
use Rattle.std.specs.Prelude.{ℕ, zero, suc, ◌-◌, Bool, true, false, List, [], ◌∷◌, take}
use Rattle.std.specs.List.{list_any}

-- the pieces of a row, each with all its bytes; k bytes of a piece that began before are passed over first
unfoldable pub pieces_past : (List ℕ → ℕ) → ℕ → List ℕ → List (List ℕ)
pieces_past size zero [] = []
pieces_past size (suc k) [] = []
pieces_past size zero (b ∷ bs) = take (size (b ∷ bs)) (b ∷ bs) ∷ pieces_past size (size (b ∷ bs) - 1) bs
pieces_past size (suc k) (b ∷ bs) = pieces_past size k bs

-- the last piece of the row is longer than the row; k bytes of a piece that began before belong to that piece
unfoldable pub overruns_past : (List ℕ → ℕ) → ℕ → List ℕ → Bool
overruns_past size zero [] = false
overruns_past size (suc k) [] = true
overruns_past size zero (b ∷ bs) = overruns_past size (size (b ∷ bs) - 1) bs
overruns_past size (suc k) (b ∷ bs) = overruns_past size k bs

-- the pieces of a row of bytes
abbrev pub pieces : (List ℕ → ℕ) → List ℕ → List (List ℕ)
pieces size bs = pieces_past size 0 bs

-- the last piece of a row is longer than what is left for it
abbrev pub overruns : (List ℕ → ℕ) → List ℕ → Bool
overruns size bs = overruns_past size 0 bs

-- some piece is so
unfoldable pub some : (List ℕ → Bool) → List (List ℕ) → Bool
some p xs = list_any p xs
