use Rattle.policy.proofs.Beginnings.{empty}
use Rattle.policy.proofs.PrefixList.new.Goals as goal

pub invariant_of-result : goal.invariant_of-result
invariant_of-result c = record { started = rw c.new.ensures (λ p. empty _ p) }
