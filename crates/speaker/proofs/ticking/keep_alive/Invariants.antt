use Rattle.model.specs.Chain.{Chain}
use Rattle.outbox.specs.Outbox.{Puts, box_of}
use Rattle.sessions.specs.Sessions.{sessions_of}
use Rattle.speaker.proofs.ticking.keep_alive.Given as goal
use Rattle.speaker_model.specs.World.{keepalives}

-- those below have their KEEPALIVE
abbrev pub invariant-loop-peer : goal.invariant-loop-peer
invariant-loop-peer g l = Chain (Puts g.O.Output.writes) (box_of l.initial.outbox) (keepalives (sessions_of l.sessions) l.peer) (box_of l.outbox)
