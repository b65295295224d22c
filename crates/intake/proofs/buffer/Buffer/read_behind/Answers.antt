use Rattle.std.proofs.Common.{arith, rules}
use Rattle.intake.proofs.Windows.{same_window, longer_window}
use Rattle.intake.proofs.buffer.Buffer.read_behind.Goals as goal

pub returns-in_err-count : goal.returns-in_err-count
returns-in_err-count g c = search (rules, same_window)

pub returns : goal.returns
returns g c =
    let b = c.args.self.now in
    longer_window b.bytes c.read_from.new.bytes b.start b.end c.in_ok-count.count b.ordered (omega arith)
    (omega (arith, c.in_ok-count.ensures.fits)) c.read_from.ensures.kept
