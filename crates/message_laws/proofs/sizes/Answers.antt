use Rattle.message_laws.proofs.Updates.{sizes}
use Rattle.message_laws.proofs.sizes.Goals as goal

pub returns : goal.returns
returns c = sizes
