use Rattle.speaker_model.proofs.Agreeing.{agree}
use Rattle.speaker_model.proofs.agreement.Goals as goal

pub returns : goal.returns
returns c = agree
