use Rattle.model.specs.Chain.{Chain}
use Rattle.outbox.specs.Outbox.{Puts, box_of}
use Rattle.peers.specs.Members.{is_member}
use Rattle.speaker.proofs.ticking.end_sessions.Given as goal
use Rattle.speaker_model.specs.World.{down_frames}

-- those below have been told
abbrev pub invariant-loop-peer : goal.invariant-loop-peer
invariant-loop-peer g l = Chain (Puts g.O.Output.writes) (box_of l.initial.outbox) (down_frames 13 (is_member l.silent) l.peer) (box_of l.outbox)
