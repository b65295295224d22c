use Rattle.std.proofs.Common.{◌-◌, ◌≤◌}
use Rattle.model.specs.Chain.{Chain}
use Rattle.model.specs.Updates.{row}
use Rattle.prefix.specs.Prefix.{count}
use Rattle.telling.specs.Meant.{held_after, held_before}
use Rattle.telling.proofs.Change.tell_peer.Given as goal

-- of the prefixes below `from` the peer has been told
abbrev pub invariant-loop-prefix : goal.invariant-loop-prefix
invariant-loop-prefix g l =
    Chain g.S.Sink.sends l.initial.sink (row l.peer (held_before g.R.Rib g.P.PolicySource l.self l.peer) (held_after g.R.Rib g.P.PolicySource l.self l.peer) l.from) l.sink × (l.from ≤ count)

abbrev pub decreases-loop-prefix : goal.decreases-loop-prefix
decreases-loop-prefix g l = count - l.from
