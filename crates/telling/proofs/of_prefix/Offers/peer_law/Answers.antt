use Rattle.telling.proofs.Chains.{peer_steps}
use Rattle.telling.proofs.of_prefix.Offers.peer_law.Goals as goal

pub returns : goal.returns
returns g c = peer_steps _ _ _ _ _ _
