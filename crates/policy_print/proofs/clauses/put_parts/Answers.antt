use Rattle.std.proofs.Common.{rules, arith}
use Rattle.policy_print.proofs.Recursions.{putting}
use Rattle.policy_print.proofs.clauses.put_parts.Goals as goal

pub loop-part-preserved : goal.loop-part-preserved
loop-part-preserved c = (search rules, grind (arith, putting))
