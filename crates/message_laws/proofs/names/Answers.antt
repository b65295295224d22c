use Rattle.message_laws.proofs.Naming.{names}
use Rattle.message_laws.proofs.names.Goals as goal

pub returns : goal.returns
returns c = names
