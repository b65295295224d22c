-- The header of a message: 16 bytes of 255, the length of the whole message in 2 bytes, and its kind. Assumes nothing.
use Rattle.std.specs.Prelude.{ℕ, Bool, false, cond, ◌&&◌, List, length, take, drop, Some, None, Option, ◌==◌, nat_le, slice_index}
use Rattle.wire.specs.declared.kinds.Kind.{Kind}
use Rattle.wire.specs.declared.kinds.Kind.TheVariants.{Open, Update, Notification, Keepalive}
use Rattle.wire.specs.Bytes.{u16_of}
pub use Rattle.wire.specs.Kinds.{kind_named}
use Rattle.std.specs.List.{list_all}

-- each byte is 255
abbrev pub are_ones : List ℕ → Bool
are_ones bs = list_all (λ b. b == 255) bs

abbrev pub has_marker : List ℕ → Bool
has_marker m = are_ones (take 16 m)

abbrev pub kind_number : List ℕ → ℕ
kind_number m = slice_index m 18

-- the lengths that a message of a kind can have
abbrev pub has_length : Option Kind → ℕ → Bool
has_length None n = false
has_length (Some Open) n = nat_le 29 n
has_length (Some Update) n = nat_le 23 n
has_length (Some Notification) n = nat_le 21 n
has_length (Some Keepalive) n = n == 19

-- the marker, the message's own length, at most 4096, and one that this kind can have
abbrev pub is_framed_as : Option Kind → List ℕ → Bool
is_framed_as kind m = has_marker m && (u16_of (drop 16 m) == length m && (nat_le (length m) 4096 && has_length kind (length m)))

-- the marker, the message's own length, at most 4096, and a known kind with a length that it can have
abbrev pub is_framed : List ℕ → Bool
is_framed m = is_framed_as (kind_named (kind_number m)) m

-- the kind of a message whose header is right
unfoldable pub kind_of : List ℕ → Option Kind
kind_of m = cond (is_framed m) (kind_named (kind_number m)) None
