use Rattle.speaker_model.proofs.Bytes.{in_bytes}
use Rattle.speaker_model.proofs.byte_promise.Goals as goal

pub returns : goal.returns
returns c = in_bytes
