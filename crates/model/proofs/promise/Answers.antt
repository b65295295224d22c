use Rattle.model.proofs.Promises.{whole, sends}
use Rattle.model.proofs.promise.Goals as goal

pub returns : goal.returns
returns c = record { main = whole; order = sends }
