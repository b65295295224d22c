use Rattle.cases.proofs.Table.{all_hold}
use Rattle.cases.proofs.worked_cases.Goals as goal

pub returns : goal.returns
returns c = all_hold
