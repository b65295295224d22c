-- Updates whose routes stand in their places. Assumes nothing.
use Rattle.std.specs.Prelude.{◌≡◌, List, [], ◌∷◌, Some}
use Rattle.model.specs.Updates.{Update}
use Rattle.prefix.specs.Prefix.{number}
use Rattle.route.specs.Route.{Route}

-- the route is one of the update's own prefix, and has no local preference
pub record Placed (u : Update) : Type 0 where
  pub own_prefix : (r : Route) → u.route ≡ Some r → number r.prefix ≡ u.prefix
  pub unpreferred : (r : Route) → u.route ≡ Some r → r.local_pref ≡ 0

-- so it is with every update of the row
unfoldable pub AllPlaced : List Update → Type 0
AllPlaced [] = Unit {0}
AllPlaced (u ∷ us) = Placed u × AllPlaced us
