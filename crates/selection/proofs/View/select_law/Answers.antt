use Rattle.selection.proofs.Recursions.{select_steps}
use Rattle.selection.proofs.View.select_law.Goals as goal

pub returns : goal.returns
returns g c = select_steps _ _ _ _ c.args.from c.args.to
