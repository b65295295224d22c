use Rattle.std.proofs.Common.{rules}
use Rattle.route.specs.Meant.{route_of}
use Rattle.policy.proofs.Recursions.{through_more}
use Rattle.policy.proofs.Policy.evaluate.Goals as goal

pub loop-clause-preserved : goal.loop-clause-preserved
loop-clause-preserved c =
    let step = through_more c.args.self.now.lists.now c.args.self.now.clauses.now c.loop-clause.clause-index c.clause-item.result (route_of c.loop-clause.route) c.loop-clause-test.true c.clause-item.is in
    search rules

pub returns-in-Some : goal.returns-in-Some
returns-in-Some c =
    let step = through_more c.args.self.now.lists.now c.args.self.now.clauses.now c.loop-clause.clause-index c.clause-item.result (route_of c.loop-clause.route) c.loop-clause-test.true c.clause-item.is in
    search rules
