use Rattle.std.proofs.Common.{arith}
use Rattle.message_write.proofs.Puts.{numbers_none, numbers_more}
use Rattle.message_write.proofs.Writer.put_numbers.Goals as goal

pub loop-number-init : goal.loop-number-init
loop-number-init c = numbers_none _ c.args.numbers.now (omega arith)

pub loop-number-preserved : goal.loop-number-preserved
loop-number-preserved c = numbers_more _ _ _ c.loop-number.number-index c.args.numbers.now (omega arith) c.loop-number.invariant c.put_number.ensures
