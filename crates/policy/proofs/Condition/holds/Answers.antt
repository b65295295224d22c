use Rattle.std.proofs.Common.{rules}
use Rattle.std.proofs.lemmas.List.Folds.{list_all-map}
use Rattle.route.specs.Meant.{route_of}
use Rattle.policy.specs.Meant.{part_of, parts_of}
use Rattle.policy.specs.Policy.{part_holds}
use Rattle.policy.proofs.Condition.holds.Goals as goal

pub returns : goal.returns
returns c =
    let r = route_of c.args.route.now in
    rw (list_all-map (λ p. part_holds p r) (part_of c.args.lists.now) (parts_of c.args.self.now)) (search rules)
