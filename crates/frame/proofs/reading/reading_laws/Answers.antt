use Rattle.frame.proofs.Laws.{laws}
use Rattle.frame.proofs.reading.reading_laws.Goals as goal

pub returns : goal.returns
returns c = laws
