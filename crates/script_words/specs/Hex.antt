-- Bytes in hexadecimal digits. Assumes nothing.
use Rattle.std.specs.Prelude.{ℕ, ◌+◌, ◌-◌, ◌*◌, cond, ◌&&◌, List, [], ◌∷◌, Some, None, Option, nat_le}

-- the value of a digit: 0 to 9, or a to f
abbrev pub digit_of : ℕ → Option ℕ
digit_of c = cond (nat_le 48 c && nat_le c 57) (Some (c - 48)) (cond (nat_le 97 c && nat_le c 102) (Some (c - 97 + 10)) None)

abbrev pub joined : Option ℕ → Option ℕ → Option ℕ
joined None low = None
joined (Some h) None = None
joined (Some h) (Some l) = Some (h * 16 + l)

-- the value of a word of just two digits
abbrev pub byte_of : List ℕ → Option ℕ
byte_of [] = None
byte_of (c ∷ []) = None
byte_of (c ∷ d ∷ []) = joined (digit_of c) (digit_of d)
byte_of (c ∷ d ∷ e ∷ cs) = None
