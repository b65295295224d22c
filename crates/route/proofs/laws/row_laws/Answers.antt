use Rattle.route.proofs.Members.{laws}
use Rattle.route.proofs.laws.row_laws.Goals as goal

pub returns : goal.returns
returns c = laws
