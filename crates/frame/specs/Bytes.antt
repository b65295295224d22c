-- Numbers in bytes, high byte first. Assumes nothing.
use Rattle.std.specs.Prelude.{ℕ, ◌+◌, ◌*◌, List, slice_index}

-- the number in the two bytes from place i on
abbrev pub number16 : List ℕ → ℕ → ℕ
number16 xs i = slice_index xs i * 256 + slice_index xs (i + 1)

-- the number in the four bytes from place i on
abbrev pub number32 : List ℕ → ℕ → ℕ
number32 xs i = slice_index xs i * 16777216 + slice_index xs (i + 1) * 65536 + slice_index xs (i + 2) * 256 + slice_index xs (i + 3)
