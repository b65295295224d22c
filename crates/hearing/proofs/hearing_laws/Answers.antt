use Rattle.hearing.proofs.Heard.{hearing}
use Rattle.hearing.proofs.Placing.{placed}
use Rattle.hearing.proofs.hearing_laws.Goals as goal

pub returns : goal.returns
returns c = record { hearing = hearing; placed = placed }
