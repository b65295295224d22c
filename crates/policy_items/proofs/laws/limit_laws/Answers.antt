use Rattle.policy_items.proofs.Exactness.{limits}
use Rattle.policy_items.proofs.laws.limit_laws.Goals as goal

pub returns : goal.returns
returns c = limits
