use Rattle.std.proofs.Common.{arith, length-take}
use Rattle.route.proofs.laws.formed_law.Goals as goal

pub returns : goal.returns
returns c = record {
  prefix_is_one = c.args.route.now.prefix.valid;
  path_is_some = omega arith;
  path_is_short = omega arith;
  communities_are_few = omega (arith, length-take c.args.route.now.communities.count c.args.route.now.communities.values);
  communities_rise = c.args.route.now.communities.ordered;
}
