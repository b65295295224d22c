use Rattle.server.proofs.Hearing.{selected_heard}
use Rattle.server.proofs.Server.heard_law.Goals as goal

pub returns : goal.returns
returns g c = selected_heard _ _ _ _ _
