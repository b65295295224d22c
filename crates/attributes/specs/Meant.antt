-- What the code's values stand for. Assumes nothing.
use Rattle.std.specs.Prelude.{ℕ, List, Ok, Err, Result}
use Rattle.arrayvec.specs.ArrayVec.{ArrayVec}
use Rattle.attributes.specs.AsPath.{Reading, got, fault}
use Rattle.attributes.specs.Meaning.{Peer, Value, Path, NextHop, Med, Communities, Unused}
use Rattle.peers.specs.declared.peer.Peer.{Peer as StoredPeer}
use Rattle.attributes.specs.declared.Value.{Value as StoredValue}
use Rattle.attributes.specs.declared.Value.TheVariants as a_value
use Rattle.fault.specs.Fault.{code}
use Rattle.fault.specs.declared.Fault.{Fault}
use Rattle.route.specs.Meant.{asns_of, communities_of}

-- what was read, or the number of the fault
abbrev pub reading_of : {A B : Type 0} → (A → B) → Result A Fault → Reading B
reading_of f (Ok x) = got (f x)
reading_of f (Err e) = fault (code e)

-- the numbers in a row with room for more
abbrev pub numbers_of : ArrayVec ℕ → List ℕ
numbers_of row = row.items

abbrev pub peer_of : StoredPeer → Peer
peer_of p = record { asn = p.asn; address = p.address }

abbrev pub meaning_of : StoredValue → Value
meaning_of (a_value.Path p) = Path (asns_of p)
meaning_of a_value.NextHop = NextHop
meaning_of (a_value.Med n) = Med n
meaning_of (a_value.Communities c) = Communities (communities_of c)
meaning_of a_value.Unused = Unused
