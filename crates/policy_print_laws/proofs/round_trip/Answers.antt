use Rattle.policy_print_laws.proofs.Whole.{round_trip}
use Rattle.policy_print_laws.proofs.round_trip.Goals as goal

pub returns : goal.returns
returns c = round_trip
