-- Which faults a message has, by their causes and not by the order of reading. Assumes nothing.
use Rattle.std.specs.Prelude.{◌≡◌, ℕ, ◌+◌, ◌≤◌, true, false, ◌⊎◌, List, length, drop, ◌==◌, nat_eq, nat_le, nat_lt, slice_index}
use Rattle.attributes.specs.AsPath.{Reading, got, fault}
use Rattle.attributes.specs.Layout.{attribute_size}
use Rattle.attributes.specs.Meaning.{Peer, no_fault}
use Rattle.message.specs.Header.{has_marker, has_length, kind_named, kind_number}
use Rattle.message.specs.Message.{Message, Opens, Updates, Notifies, KeepsAlive, read_message}
use Rattle.message.specs.Open.{is_asn, is_hold_time, is_offer, offers, parameter_offer}
use Rattle.message.specs.declared.State.{State}
use Rattle.message.specs.declared.State.TheVariants.{OpenSent, Established}
use Rattle.update.specs.Sections.{sections_end, withdrawn_in, attributes_in, announced_in}
use Rattle.update.specs.Update.{Content, Announces, Withdraws, Faulty, attributes_of, types_of, repeats, is_malformed, is_invalid, is_foreign, lacks_attribute}
use Rattle.wire.specs.Bytes.{u16_of}
use Rattle.wire.specs.Nlri.{prefix_size, has_no_prefix}
use Rattle.wire.specs.Pieces.{overruns, some}

-- the message m, of this peer and at this state of its session, has the fault of that number
pub data HasFault (state : State) (peer : Peer) (m : List ℕ) : ℕ → Type 0 where
  -- 1: without the 16 bytes of 255, of another length than it tells, too long, or of a kind that is none or cannot have that length
  no_marker : has_marker m ≡ false → HasFault state peer m 1
  other_length : nat_eq (u16_of (drop 16 m)) (length m) ≡ false → HasFault state peer m 1
  too_long : nat_le (length m) 4096 ≡ false → HasFault state peer m 1
  wrong_kind : has_length (kind_named (kind_number m)) (length m) ≡ false → HasFault state peer m 1
  -- 2: an OPEN that is not awaited, of another version or network, with a hold time that is neither 90 nor 0, with parameters that do not end with it, or that are wrong or without the peer's network in capability 65
  not_awaited : kind_number m ≡ 1 → state ≡ Established → HasFault state peer m 2
  other_version : kind_number m ≡ 1 → (slice_index m 19 == 4) ≡ false → HasFault state peer m 2
  other_network : kind_number m ≡ 1 → is_asn peer.asn (u16_of (drop 20 m)) ≡ false → HasFault state peer m 2
  other_hold_time : kind_number m ≡ 1 → is_hold_time (u16_of (drop 22 m)) ≡ false → HasFault state peer m 2
  other_end : kind_number m ≡ 1 → (29 + slice_index m 28 == length m) ≡ false → HasFault state peer m 2
  not_offered : kind_number m ≡ 1 → is_offer (offers (parameter_offer peer.asn) (drop 29 m)) ≡ false → HasFault state peer m 2
  -- 3: an UPDATE or a KEEPALIVE before both OPENs
  early_update : kind_number m ≡ 2 → state ≡ OpenSent → HasFault state peer m 3
  early_keepalive : kind_number m ≡ 4 → state ≡ OpenSent → HasFault state peer m 3
  -- 4: an UPDATE whose parts run over it, or with prefixes or attributes that run over their part
  parts_over : kind_number m ≡ 2 → nat_lt (length m) (sections_end m) ≡ true → HasFault state peer m 4
  withdrawn_over : kind_number m ≡ 2 → overruns prefix_size (withdrawn_in m) ≡ true → HasFault state peer m 4
  attributes_over : kind_number m ≡ 2 → overruns attribute_size (attributes_in m) ≡ true → HasFault state peer m 4
  announced_over : kind_number m ≡ 2 → overruns prefix_size (announced_in m) ≡ true → HasFault state peer m 4
  -- 5: an attribute twice, or one that is malformed
  twice : kind_number m ≡ 2 → repeats (types_of (attributes_of m)) ≡ true → HasFault state peer m 5
  malformed : kind_number m ≡ 2 → some is_malformed (attributes_of m) ≡ true → HasFault state peer m 5
  -- 6: what is no prefix, or an attribute with a wrong value
  no_prefix_withdrawn : kind_number m ≡ 2 → has_no_prefix (withdrawn_in m) ≡ true → HasFault state peer m 6
  no_prefix_announced : kind_number m ≡ 2 → has_no_prefix (announced_in m) ≡ true → HasFault state peer m 6
  invalid : kind_number m ≡ 2 → some (is_invalid peer) (attributes_of m) ≡ true → HasFault state peer m 6
  -- 7: a next hop that is not the peer's
  foreign : kind_number m ≡ 2 → some (is_foreign peer) (attributes_of m) ≡ true → HasFault state peer m 7
  -- 8: prefixes are announced without a path or a next hop
  lacking : kind_number m ≡ 2 → lacks_attribute m ≡ true → HasFault state peer m 8

-- the number of the fault that is answered, or one above all
abbrev pub content_answer : Content → ℕ
content_answer (Announces a) = no_fault
content_answer Withdraws = no_fault
content_answer (Faulty k) = k

abbrev pub message_answer : Message → ℕ
message_answer (Opens o) = no_fault
message_answer (Updates c) = content_answer c
message_answer (Notifies c s) = no_fault
message_answer KeepsAlive = no_fault

abbrev pub answered : Reading Message → ℕ
answered (got msg) = message_answer msg
answered (fault k) = k

-- the fault that is answered is one that the message has, and it has none lower; where none is answered it has none
pub record LowestFault : Type 0 where
  pub present : (state : State) (peer : Peer) (m : List ℕ) → (answered (read_message state peer m) ≡ no_fault) ⊎ HasFault state peer m (answered (read_message state peer m))
  pub lowest : (state : State) (peer : Peer) (m : List ℕ) (k : ℕ) → HasFault state peer m k → answered (read_message state peer m) ≤ k
  pub few : (state : State) (peer : Peer) (m : List ℕ) (k : ℕ) → HasFault state peer m k → k ≤ 8
