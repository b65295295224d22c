use Rattle.telling.proofs.Chains.{row_steps}
use Rattle.telling.proofs.Change.row_law.Goals as goal

pub returns : goal.returns
returns g c = row_steps _ _ _ _ _ _ _ c.args.peer c.args.from c.args.to
