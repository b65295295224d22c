-- Reading a path segment by segment. Assumes nothing.
use Rattle.std.specs.Prelude.{ℕ, ◌+◌, cond, ◌&&◌, List, ◌++◌, length, Some, None, Option, ◌==◌, nat_le, nat_lt, slice_index}
use Rattle.attributes.specs.AsPath.{Reading, got, fault, segment_size, asns_in, is_sequence}
use Rattle.std.specs.List.{fold}
use Rattle.wire.specs.Bytes.{numbers}
use Rattle.wire.specs.Pieces.{pieces, overruns}

-- the numbers so far with those of the bytes, if there is room for them
unfoldable pub with_numbers : ℕ → List ℕ → List ℕ → Option (List ℕ)
with_numbers room ns bs = cond (nat_le (length ns + length (numbers bs)) room) (Some (ns ++ numbers bs)) None

-- the networks so far with those of one more segment, if it is a sequence and there is room for them
unfoldable pub with_segment : ℕ → Option (List ℕ) → List ℕ → Option (List ℕ)
with_segment room None s = None
with_segment room (Some asns) s = cond (is_sequence s && nat_le (length asns + length (asns_in s)) room) (Some (asns ++ asns_in s)) None

unfoldable pub gathered : ℕ → Option (List ℕ) → List (List ℕ) → Option (List ℕ)
gathered room asns ss = fold (with_segment room) asns ss

abbrev pub or_invalid : Option (List ℕ) → Reading (List ℕ)
or_invalid None = fault 6
or_invalid (Some asns) = got asns

-- the networks so far with those of all segments of the bytes
unfoldable pub read_segments : ℕ → Option (List ℕ) → List ℕ → Reading (List ℕ)
read_segments room asns bs = cond (overruns segment_size bs) (fault 5) (or_invalid (gathered room asns (pieces segment_size bs)))

-- the path of these networks, if there are some and the first is the peer's
abbrev pub starting_with : ℕ → List ℕ → Reading (List ℕ)
starting_with asn asns = cond (nat_lt 0 (length asns) && slice_index asns 0 == asn) (got asns) (fault 6)
