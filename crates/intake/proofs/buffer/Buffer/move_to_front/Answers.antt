use Rattle.std.proofs.Common.{rules}
use Rattle.intake.proofs.Windows.{moved_window}
use Rattle.intake.proofs.buffer.Buffer.move_to_front.Goals as goal

pub returns : goal.returns
returns c = search (rules, moved_window)
