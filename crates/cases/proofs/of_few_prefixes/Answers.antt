use Rattle.cases.proofs.Few.{of_few}
use Rattle.cases.proofs.of_few_prefixes.Goals as goal

pub returns : goal.returns
returns c = of_few
