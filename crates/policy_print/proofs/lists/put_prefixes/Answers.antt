use Rattle.std.proofs.Common.{rules, arith}
use Rattle.policy_print.proofs.Recursions.{putting}
use Rattle.policy_print.proofs.lists.put_prefixes.Goals as goal

pub loop-prefix-preserved : goal.loop-prefix-preserved
loop-prefix-preserved c = (search rules, grind (arith, putting))
