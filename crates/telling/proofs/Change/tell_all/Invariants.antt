use Rattle.model.specs.Chain.{Chain}
use Rattle.model.specs.Updates.{updates}
use Rattle.peers.specs.Members.{is_member}
use Rattle.prefix.specs.Prefix.{count}
use Rattle.telling.specs.Meant.{held_after, held_before}
use Rattle.telling.proofs.Change.tell_all.Given as goal

-- the peers below have been told
abbrev pub invariant-loop-peer : goal.invariant-loop-peer
invariant-loop-peer g l = Chain g.S.Sink.sends l.initial.sink (updates count (is_member l.up) (held_before g.R.Rib g.P.PolicySource l.self) (held_after g.R.Rib g.P.PolicySource l.self) l.peer) l.sink
