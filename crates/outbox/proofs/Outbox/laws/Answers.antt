use Rattle.outbox.proofs.Rows.{outbox_laws}
use Rattle.outbox.proofs.Outbox.laws.Goals as goal

pub returns : goal.returns
returns g c = outbox_laws g.O.Output.writes
