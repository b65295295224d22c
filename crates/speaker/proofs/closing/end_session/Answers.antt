use Rattle.std.proofs.Common.{[], ◌∷◌}
use Rattle.fault.specs.Fault.{code}
use Rattle.message_write.specs.Written.{notification_bytes}
use Rattle.model.proofs.Chains.{one, join}
use Rattle.outbox.specs.Frames.{Carries, Closes}
use Rattle.outbox.specs.Outbox.{box_of, Puts}
use Rattle.speaker.proofs.closing.end_session.Goals as goal

pub returns : goal.returns
returns g c =
    let W = g.O.Output.writes in
    join (Puts W) (box_of c.args.outbox.now) (box_of c.notify.new.self) (box_of c.close.new.self) (Carries c.args.peer (notification_bytes (code c.args.fault)) ∷ []) (Closes c.args.peer ∷ []) (one (Puts W) (box_of c.args.outbox.now) (box_of c.notify.new.self) (Carries c.args.peer (notification_bytes (code c.args.fault))) c.notify.ensures) (one (Puts W) (box_of c.notify.new.self) (box_of c.close.new.self) (Closes c.args.peer) c.close.ensures)
