use Rattle.message_laws.proofs.Lowest.{lowest_fault}
use Rattle.message_laws.proofs.lowest_fault.Goals as goal

pub returns : goal.returns
returns c = lowest_fault
