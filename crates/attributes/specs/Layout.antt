-- How path attributes stand in an UPDATE: a byte of flags, a byte for the type, the length in one byte, or in two where the flag for it is set, and the value. Assumes nothing.
use Rattle.std.specs.Prelude.{ℕ, ◌+◌, ◌%◌, Bool, true, cond, not, ◌&&◌, List, length, drop, ◌==◌, bit_and, slice_index}
use Rattle.attributes.specs.declared.Kind.{Kind}
use Rattle.attributes.specs.declared.Kind.TheVariants.{Origin, AsPath, NextHop, Med, LocalPref, Communities, Other}
use Rattle.wire.specs.Bytes.{u16_of}

-- the flag 16: the length has two bytes
abbrev pub is_extended : List ℕ → Bool
is_extended bs = not (bit_and (slice_index bs 0) 16 == 0)

abbrev pub header_size : List ℕ → ℕ
header_size bs = cond (is_extended bs) 4 3

abbrev pub value_length : List ℕ → ℕ
value_length bs = cond (is_extended bs) (u16_of (drop 2 bs)) (slice_index bs 2)

-- how many bytes the first attribute of a row takes
abbrev pub attribute_size : List ℕ → ℕ
attribute_size bs = header_size bs + value_length bs

abbrev pub type_of : List ℕ → ℕ
type_of attribute = slice_index attribute 1

abbrev pub value_of : List ℕ → List ℕ
value_of attribute = drop (header_size attribute) attribute

-- the types that are known
abbrev pub kind_of : ℕ → Kind
kind_of n = cond (n == 1) Origin (cond (n == 2) AsPath (cond (n == 3) NextHop (cond (n == 4) Med (cond (n == 5) LocalPref (cond (n == 8) Communities Other)))))

-- of the flags 128, optional, and 64, transitive, those that a known attribute has; of the others none is looked at
abbrev pub has_flags : Kind → ℕ → Bool
has_flags Origin flags = bit_and flags 192 == 64
has_flags AsPath flags = bit_and flags 192 == 64
has_flags NextHop flags = bit_and flags 192 == 64
has_flags Med flags = bit_and flags 192 == 128
has_flags LocalPref flags = bit_and flags 192 == 64
has_flags Communities flags = bit_and flags 192 == 192
has_flags Other flags = true

-- the lengths that a known attribute may have
abbrev pub has_length : Kind → ℕ → Bool
has_length Origin n = n == 1
has_length AsPath n = true
has_length NextHop n = n == 4
has_length Med n = n == 4
has_length LocalPref n = n == 4
has_length Communities n = not (n == 0) && n % 4 == 0
has_length Other n = true

-- the flags and the length are those of the attribute's type
abbrev pub has_form : List ℕ → Bool
has_form attribute = has_flags (kind_of (type_of attribute)) (slice_index attribute 0) && has_length (kind_of (type_of attribute)) (length (value_of attribute))
