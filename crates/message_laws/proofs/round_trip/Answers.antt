use Rattle.message_laws.proofs.Updates.{round_trip}
use Rattle.message_laws.proofs.round_trip.Goals as goal

pub returns : goal.returns
returns c = round_trip
