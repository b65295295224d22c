use Rattle.rows.proofs.Rest.{fill_steps, rest_steps}
use Rattle.rows.proofs.row_law.Goals as goal

pub returns : goal.returns
returns g c = record { rest = rest_steps _; fill = fill_steps _ }
