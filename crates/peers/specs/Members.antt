-- Sets of peers. Assumes nothing.
use Rattle.std.specs.Prelude.{ℕ, Bool, false, slice_index_or}
use Rattle.peers.specs.declared.PeerSet.{PeerSet}

-- whether the peer of that number is one of the set
abbrev pub is_member : PeerSet → ℕ → Bool
is_member s i = slice_index_or s.members i false
