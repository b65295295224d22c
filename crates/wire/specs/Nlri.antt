-- Prefixes in a message: a byte with the length in bits, then as many bytes as these bits need. Assumes nothing.
use Rattle.std.specs.Prelude.{ℕ, ◌+◌, ◌/◌, Bool, false, cond, not, ◌&&◌, ◌||◌, List, [], ◌∷◌, length, drop, ◌==◌, slice_index}
use Rattle.prefix.specs.Prefix.{Prefix, is_prefix}
use Rattle.wire.specs.Bytes.{u32_of}
use Rattle.wire.specs.Pieces.{pieces, overruns, some}
use Rattle.wire.specs.declared.nlri.Check.{Check}
use Rattle.wire.specs.declared.nlri.Check.TheVariants.{Overrun, SomeInvalid, Valid}

-- how many bytes a prefix takes: the length's, and one for each 8 bits, rounded up
abbrev pub prefix_size : List ℕ → ℕ
prefix_size bs = 1 + (slice_index bs 0 + 7) / 8

-- all bytes of the piece are there, and it is a prefix: of at most 24 bits, and with none behind its length
abbrev pub holds_prefix : List ℕ → Bool
holds_prefix piece = length piece == prefix_size piece && is_prefix (u32_of (drop 1 piece)) (slice_index piece 0)

-- the prefix of such a piece: bytes that are not written are 0
abbrev pub prefix_of : List ℕ → Prefix
prefix_of piece = record { address = u32_of (drop 1 piece); length = slice_index piece 0 }

-- of these pieces those that are prefixes
unfoldable pub prefixes_of : List (List ℕ) → List Prefix
prefixes_of [] = []
prefixes_of (x ∷ xs) = cond (holds_prefix x) (prefix_of x ∷ prefixes_of xs) (prefixes_of xs)

-- the prefixes that a part of a message names, in their order; what is no prefix is passed over
unfoldable pub named : List ℕ → List Prefix
named bs = prefixes_of (pieces prefix_size bs)

-- something in the part is no prefix
abbrev pub has_no_prefix : List ℕ → Bool
has_no_prefix bs = some (λ x. not (holds_prefix x)) (pieces prefix_size bs)

-- what is to be said of the rest of a part of a message that should hold prefixes, where something before it was no prefix or was not
unfoldable pub checked_after : Bool → List ℕ → Check
checked_after invalid bs = cond (overruns prefix_size bs) Overrun (cond (invalid || has_no_prefix bs) SomeInvalid Valid)

-- what is to be said of such a part: that it runs over, else that something in it is no prefix
abbrev pub checked : List ℕ → Check
checked bs = checked_after false bs
