use Rattle.std.proofs.Common.{rules}
use Rattle.intake.proofs.Windows.{later_start}
use Rattle.intake.proofs.buffer.Buffer.take.Goals as goal

pub returns : goal.returns
returns c = search (rules, later_start)
