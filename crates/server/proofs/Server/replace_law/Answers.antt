use Rattle.server.proofs.Hearing.{same_silence}
use Rattle.server.proofs.Server.replace_law.Goals as goal

pub returns : goal.returns
returns g c = same_silence _ _ _ _ _ _ _ _ _ _ 0
