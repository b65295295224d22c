use Rattle.prefix.proofs.Within.{contained, equal, reflexive, transitive, whole}
use Rattle.prefix.proofs.methods.prefix_laws.Goals as goal

pub returns : goal.returns
returns c = record { equal = equal; contained = contained; reflexive = reflexive; transitive = transitive; whole = whole }
