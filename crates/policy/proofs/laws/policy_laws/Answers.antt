use Rattle.policy.proofs.Verdicts.{laws}
use Rattle.policy.proofs.laws.policy_laws.Goals as goal

pub returns : goal.returns
returns c = laws
