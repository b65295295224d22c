use Rattle.route.proofs.Rows.{end_steps}
use Rattle.route.proofs.as_paths.end_law.Goals as goal

pub returns : goal.returns
returns c = end_steps
