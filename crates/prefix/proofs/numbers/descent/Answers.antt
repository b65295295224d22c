use Rattle.prefix.proofs.Descent.{descends, ends}
use Rattle.prefix.proofs.numbers.descent.Goals as goal

pub returns : goal.returns
returns c = record { descends = descends; ends = ends }
