-- The value of the attribute AS_PATH: segments, each a byte for its type, a byte with the count of its networks, and these in 4 bytes each. Assumes nothing.
use Rattle.std.specs.Prelude.{ℕ, ◌+◌, ◌*◌, Bool, cond, not, ◌&&◌, List, length, drop, ◌==◌, nat_le, nat_lt, slice_index}
use Rattle.std.specs.List.{flat_map}
use Rattle.wire.specs.Bytes.{numbers}
use Rattle.wire.specs.Pieces.{pieces, overruns, some}

-- what reading gave: something, or the number of a fault
pub data Reading (A : Type 0) : Type 0 where
  got : A → Reading A
  fault : ℕ → Reading A

-- how many bytes the first segment takes
abbrev pub segment_size : List ℕ → ℕ
segment_size bs = 2 + 4 * slice_index bs 1

-- the networks of a segment
abbrev pub asns_in : List ℕ → List ℕ
asns_in segment = numbers (drop 2 segment)

-- a sequence (type 2) of at least one network
abbrev pub is_sequence : List ℕ → Bool
is_sequence segment = slice_index segment 0 == 2 && nat_lt 0 (length (asns_in segment))

-- the networks of all segments
unfoldable pub asns_of_all : List (List ℕ) → List ℕ
asns_of_all ss = flat_map asns_in ss

-- the path that a value holds: several sequences are one path
abbrev pub path_in : List ℕ → List ℕ
path_in value = asns_of_all (pieces segment_size value)

abbrev pub are_sequences : List ℕ → Bool
are_sequences value = not (some (λ s. not (is_sequence s)) (pieces segment_size value))

-- sequences alone, of 1 to 32 networks, of which the first is the peer's
abbrev pub is_path : ℕ → List ℕ → Bool
is_path asn value = are_sequences value && (nat_lt 0 (length (path_in value)) && (nat_le (length (path_in value)) 32 && slice_index (path_in value) 0 == asn))

-- a segment that runs over the value is fault 5, what is no path is fault 6
unfoldable pub read_path : ℕ → List ℕ → Reading (List ℕ)
read_path asn value = cond (overruns segment_size value) (fault 5) (cond (is_path asn value) (got (path_in value)) (fault 6))
