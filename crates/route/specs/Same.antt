-- When two routes are the same. Assumes nothing.
use Rattle.std.specs.Prelude.{ℕ, Bool, true, false, ◌&&◌, List, Some, None, Option, ◌==◌}
use Rattle.std.specs.Cmp.Lexicographic.{pointwise}
use Rattle.prefix.specs.Prefix.{same}
use Rattle.route.specs.Route.{Route}

abbrev pub same_row : List ℕ → List ℕ → Bool
same_row xs ys = pointwise ◌==◌ xs ys

abbrev pub same_route : Route → Route → Bool
same_route a e = same a.prefix e.prefix && (same_row a.path e.path && (a.local_pref == e.local_pref && (a.med == e.med && same_row a.communities e.communities)))

abbrev pub same_option : Option Route → Option Route → Bool
same_option None None = true
same_option None (Some e) = false
same_option (Some a) None = false
same_option (Some a) (Some e) = same_route a e
