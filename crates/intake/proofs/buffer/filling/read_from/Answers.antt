use Rattle.std.proofs.Common.{rules}
use Rattle.std.proofs.lemmas.Slice.{overwrites}
use Rattle.intake.proofs.buffer.filling.read_from.Goals as goal

pub returns : goal.returns
returns g c = search (rules, overwrites)
