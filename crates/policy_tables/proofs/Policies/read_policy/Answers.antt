use Rattle.std.proofs.Common.{rules}
use Rattle.policy_tables.proofs.Filling.{grown}
use Rattle.policy_tables.proofs.Policies.read_policy.Goals as goal

pub invariant_of-self : goal.invariant_of-self
invariant_of-self c = search (rules, grown)
