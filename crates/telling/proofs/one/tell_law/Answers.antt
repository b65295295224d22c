use Rattle.telling.proofs.Chains.{tell_steps}
use Rattle.telling.proofs.one.tell_law.Goals as goal

pub returns : goal.returns
returns g c = tell_steps _ _ _ _ _
