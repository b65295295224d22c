use Rattle.std.proofs.Common.{arith, rules}
use Rattle.prefix.proofs.Descent.{longer}
use Rattle.prefix.proofs.Prefix.longer.Goals as goal

pub overflow_add-result : goal.overflow_add-result
overflow_add-result c = omega (arith, (longer c.args.self.address c.args.self.length c.if-one.bit c.args.one c.args.self.valid c.requires (search rules)).0)

pub invariant_of-result : goal.invariant_of-result
invariant_of-result c = record { valid = (longer c.args.self.address c.args.self.length c.if-one.bit c.args.one c.args.self.valid c.requires (search rules)).1 }
