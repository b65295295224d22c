-- Numbers in bytes, the high byte first. Assumes nothing.
use Rattle.std.specs.Prelude.{ℕ, ◌+◌, ◌*◌, ◌/◌, ◌%◌, List, [], ◌∷◌, slice_index}

-- the number that the first 2 bytes make; a byte that is not there counts as 0
abbrev pub u16_of : List ℕ → ℕ
u16_of bs = slice_index bs 0 * 256 + slice_index bs 1

-- the number that the first 4 bytes make; a byte that is not there counts as 0
abbrev pub u32_of : List ℕ → ℕ
u32_of bs = slice_index bs 0 * 16777216 + slice_index bs 1 * 65536 + slice_index bs 2 * 256 + slice_index bs 3

-- the numbers of 4 bytes each that stand in a row of bytes; up to 3 bytes left at its end are no number
unfoldable pub numbers : List ℕ → List ℕ
numbers [] = []
numbers (a ∷ []) = []
numbers (a ∷ b ∷ []) = []
numbers (a ∷ b ∷ c ∷ []) = []
numbers (a ∷ b ∷ c ∷ d ∷ bs) = u32_of (a ∷ b ∷ c ∷ d ∷ []) ∷ numbers bs

-- a number as 2 bytes
abbrev pub bytes16 : ℕ → List ℕ
bytes16 n = (n / 256 % 256) ∷ (n % 256) ∷ []

-- a number as 4 bytes
abbrev pub bytes32 : ℕ → List ℕ
bytes32 n = (n / 16777216 % 256) ∷ (n / 65536 % 256) ∷ (n / 256 % 256) ∷ (n % 256) ∷ []
