-- The parts of an UPDATE. Behind the header of 19 bytes: the length of the withdrawn prefixes in 2 bytes, these; the length of the attributes in 2 bytes, these; and the announced prefixes. Assumes nothing.
use Rattle.std.specs.Prelude.{ℕ, ◌+◌, List, take, drop}
use Rattle.wire.specs.Bytes.{u16_of}

abbrev pub withdrawn_length : List ℕ → ℕ
withdrawn_length m = u16_of (drop 19 m)

abbrev pub attributes_length : List ℕ → ℕ
attributes_length m = u16_of (drop (21 + withdrawn_length m) m)

-- where the announced prefixes begin; a message that is shorter has parts that run over it
unfoldable pub sections_end : List ℕ → ℕ
sections_end m = 23 + withdrawn_length m + attributes_length m

unfoldable pub withdrawn_in : List ℕ → List ℕ
withdrawn_in m = take (withdrawn_length m) (drop 21 m)

unfoldable pub attributes_in : List ℕ → List ℕ
attributes_in m = take (attributes_length m) (drop (23 + withdrawn_length m) m)

unfoldable pub announced_in : List ℕ → List ℕ
announced_in m = drop (sections_end m) m
