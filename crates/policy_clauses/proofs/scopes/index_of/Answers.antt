use Rattle.std.proofs.Common.{rules, ◌∙◌}
use Rattle.policy_clauses.proofs.Naming.{meant_place}
use Rattle.policy_clauses.proofs.scopes.index_of.Goals as goal

pub returns-in_err-place : goal.returns-in_err-place
returns-in_err-place c = let meant = meant_place c.args.name.now 0 c.args.names.now in search (rules, meant)

pub returns : goal.returns
returns c = c.in_ok-place.ensures.value ∙ meant_place c.args.name.now 0 c.args.names.now
