use Rattle.selection.proofs.Best.{laws}
use Rattle.selection.proofs.laws.selection_laws.Goals as goal

pub returns : goal.returns
returns c = laws
