use Rattle.telling.proofs.Chains.{if_up_steps}
use Rattle.telling.proofs.of_prefix.Offers.if_up_law.Goals as goal

pub returns : goal.returns
returns g c = if_up_steps _ _ _
