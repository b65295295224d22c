use Rattle.speaker_model.proofs.Keeping.{laws}
use Rattle.speaker_model.proofs.world_laws.Goals as goal

pub returns : goal.returns
returns c = laws
