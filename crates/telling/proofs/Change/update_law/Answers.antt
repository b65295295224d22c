use Rattle.prefix.specs.Prefix.{count}
use Rattle.telling.proofs.Chains.{update_steps}
use Rattle.telling.proofs.Change.update_law.Goals as goal

pub returns : goal.returns
returns g c = update_steps _ _ _ _ count c.args.peer
