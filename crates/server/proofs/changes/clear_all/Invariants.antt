use Rattle.std.proofs.Common.{◌≡◌, ℕ, cond, ◌&&◌, ltb, None}
use Rattle.peers.specs.Members.{is_member}
use Rattle.server.proofs.changes.clear_all.Given as goal

-- those of the set below are gone
abbrev pub invariant-loop-peer : goal.invariant-loop-peer
invariant-loop-peer g l = (i p : ℕ) → g.R.Rib.received l.rib i p ≡ cond (ltb i l.peer && is_member l.set i) None (g.R.Rib.received l.initial.rib i p)
