use Rattle.policy_tables.proofs.Truths.{text_laws}
use Rattle.policy_tables.proofs.laws.text_laws.Goals as goal

pub returns : goal.returns
returns c = text_laws
