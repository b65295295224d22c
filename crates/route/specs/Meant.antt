-- What the code's values stand for. Assumes nothing.
use Rattle.std.specs.Prelude.{ℕ, List, take, drop}
use Rattle.route.specs.declared.Communities.{Communities}
use Rattle.route.specs.declared.Path.{Path}
use Rattle.route.specs.declared.Route.{Route as Stored}
use Rattle.prefix.specs.Meant.{meant}
use Rattle.route.specs.Route.{Route}

abbrev pub asns_of : Path → List ℕ
asns_of p = drop p.start p.asns

abbrev pub communities_of : Communities → List ℕ
communities_of c = take c.count c.values

abbrev pub route_of : Stored → Route
route_of r = record { prefix = meant r.prefix; path = asns_of r.path; local_pref = r.metrics.local_pref; med = r.metrics.med; communities = communities_of r.communities }
