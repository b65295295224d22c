use Rattle.std.proofs.Common.{◌≡◌, ℕ, not, ◌&&◌, ltb}
use Rattle.peers.specs.Members.{is_member}
use Rattle.peers.proofs.PeerSet.without.Given as goal

-- the members of the other set below are out
abbrev pub invariant-loop-peer : goal.invariant-loop-peer
invariant-loop-peer l = (i : ℕ) → is_member l.rest i ≡ (is_member l.self i && not (ltb i l.peer && is_member l.other i))
