-- OPEN messages. Behind the header of 19 bytes: the version, the network in 2 bytes, the hold time in 2, the identifier in 4, the length of the optional parameters, and these; a parameter of type 2 holds capabilities. Assumes nothing.
use Rattle.std.specs.Borrow.{Bor}
use Rattle.std.specs.Fn.{Shared}
use Rattle.std.specs.Prelude.{◌≡◌, ℕ, ◌+◌, Bool, true, false, cond, not, ◌&&◌, ◌||◌, is_some, unwrap_or, List, length, drop, Some, None, Option, ◌==◌, slice_index}
use Rattle.attributes.specs.AsPath.{Reading, got, fault}
use Rattle.attributes.specs.Meaning.{Peer}
use Rattle.wire.specs.Bytes.{u16_of, u32_of}
use Rattle.wire.specs.Pieces.{pieces, overruns, some}

-- how many bytes the first parameter or capability takes: its type, its length and its value
abbrev pub field_size : List ℕ → ℕ
field_size bs = 2 + slice_index bs 1

abbrev pub is_wrong : Option Bool → Bool
is_wrong offered = not (is_some offered)

abbrev pub is_offer : Option Bool → Bool
is_offer offered = unwrap_or offered false

-- whether one of the fields offers networks of 4 bytes, by what is to be said of each; nothing where one of them is wrong or runs over
unfoldable pub offers_after : (List ℕ → Option Bool) → Bool → List ℕ → Option Bool
offers_after offer found bs = cond (overruns field_size bs || some (λ x. is_wrong (offer x)) (pieces field_size bs)) None (Some (found || some (λ x. is_offer (offer x)) (pieces field_size bs)))

-- what a closure of the code says of each field
abbrev pub Says : {F : Type 0} → Shared F (Bor (List ℕ) × Unit {0}) (Option Bool) → F → (List ℕ → Option Bool) → Type 0
Says g offer says = (field : Bor (List ℕ)) (offered : Option Bool) → g.post offer (field, tt) offered → offered ≡ says field.now

abbrev pub offers : (List ℕ → Option Bool) → List ℕ → Option Bool
offers offer bs = offers_after offer false bs

-- capability 65 has the peer's network in 4 bytes; others are passed over
abbrev pub capability_offer : ℕ → List ℕ → Option Bool
capability_offer asn c = cond (slice_index c 0 == 65) (cond (slice_index c 1 == 4 && u32_of (drop 2 c) == asn) (Some true) None) (Some false)

-- a parameter of type 2 holds capabilities; others are passed over
abbrev pub parameter_offer : ℕ → List ℕ → Option Bool
parameter_offer asn p = cond (slice_index p 0 == 2) (offers (capability_offer asn) (drop 2 p)) (Some false)

-- the network, or 23456 for one that is told by capability 65
abbrev pub is_asn : ℕ → ℕ → Bool
is_asn asn n = n == asn || n == 23456

abbrev pub is_hold_time : ℕ → Bool
is_hold_time n = n == 90 || n == 0

-- version 4, the peer's network, hold time 90 or 0, parameters that end with the message, and among them the peer's network in capability 65
abbrev pub is_open : Peer → List ℕ → Bool
is_open peer m = slice_index m 19 == 4 && (is_asn peer.asn (u16_of (drop 20 m)) && (is_hold_time (u16_of (drop 22 m)) && (29 + slice_index m 28 == length m && is_offer (offers (parameter_offer peer.asn) (drop 29 m)))))

pub record Open : Type 0 where
  pub hold_time : ℕ
  pub identifier : ℕ

unfoldable pub read_open : Peer → List ℕ → Reading Open
read_open peer m = cond (is_open peer m) (got (record { hold_time = u16_of (drop 22 m); identifier = u32_of (drop 24 m) })) (fault 2)
