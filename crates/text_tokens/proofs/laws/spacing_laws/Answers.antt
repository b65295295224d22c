use Rattle.text_tokens.proofs.Unplaced.{spacing}
use Rattle.text_tokens.proofs.laws.spacing_laws.Goals as goal

pub returns : goal.returns
returns c = spacing
