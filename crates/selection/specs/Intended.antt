-- What each peer should hold, by what all peers last announced and the policies of now; nothing else goes into it. Assumes nothing.
use Rattle.std.specs.Prelude.{ℕ, zero, suc, Bool, cond, ◌&&◌, ◌||◌, ◌∷◌, length, Some, None, Option, ◌==◌, nat_le, nat_lt}
use Rattle.policy.specs.Policy.{Policy, evaluate}
use Rattle.rib.specs.Received.{Received}
use Rattle.route.specs.Numbers.{is_in}
use Rattle.route.specs.Route.{Route, with_path, with_local_pref, with_med}

-- own: the route server's own network; imports, exports: the policies for each peer
pub record Rules : Type 0 where
  pub own : ℕ
  pub imports : ℕ → Policy
  pub exports : ℕ → Policy

-- a route that has the own network on its path would run in a ring
abbrev pub unless_ring : ℕ → Option Route → Option Route
unless_ring own None = None
unless_ring own (Some r) = cond (is_in own r.path) None (Some r)

-- what is imported of a route: by the policy, with local preference 100 set before, and without rings
abbrev pub imported_by : ℕ → Policy → Route → Option Route
imported_by own policy r = unless_ring own (evaluate policy (with_local_pref 100 r))

abbrev pub imported : Rules → ℕ → Option Route → Option Route
imported rules i None = None
imported rules i (Some r) = imported_by rules.own (rules.imports i) r

-- an imported route, and the peer from which it comes
pub record Candidate : Type 0 where
  pub peer : ℕ
  pub route : Route

-- what decides between candidates
pub record Rank : Type 0 where
  pub local_pref : ℕ
  pub path_length : ℕ
  pub med : ℕ
  pub peer : ℕ

abbrev pub rank : Candidate → Rank
rank c = record { local_pref = c.route.local_pref; path_length = length c.route.path; med = c.route.med; peer = c.peer }

-- the larger local preference; else the shorter path; else the smaller MED; else the lower peer
abbrev pub outranks : Rank → Rank → Bool
outranks a e =
    nat_lt e.local_pref a.local_pref || (e.local_pref == a.local_pref &&
    (nat_lt a.path_length e.path_length || (a.path_length == e.path_length &&
    (nat_lt a.med e.med || (a.med == e.med &&
    nat_lt a.peer e.peer)))))

abbrev pub better : Candidate → Candidate → Bool
better a e = outranks (rank a) (rank e)

-- the better of a candidate and the best so far
abbrev pub or_better : ℕ → Option Route → Option Candidate → Option Candidate
or_better i None best = best
or_better i (Some r) None = Some (record { peer = i; route = r })
or_better i (Some r) (Some best) = Some (cond (better (record { peer = i; route = r }) best) (record { peer = i; route = r }) best)

-- the best for a prefix, of the peers below n
unfoldable pub selected : Rules → Received → ℕ → ℕ → Option Candidate
selected rules received p zero = None
selected rules received p (suc n) = or_better n (imported rules n (received n p)) (selected rules received p n)

-- the selected route as it is offered to export policies: with the own network in front and MED 0; a path of 32 can't take it
abbrev pub offered : ℕ → Option Candidate → Option Candidate
offered own None = None
offered own (Some c) = cond (nat_le (length (own ∷ c.route.path)) 32) (Some (record { peer = c.peer; route = with_med 0 (with_path (own ∷ c.route.path) c.route) })) None

-- local preference is not sent
abbrev pub unpreferred : Option Route → Option Route
unpreferred None = None
unpreferred (Some r) = Some (with_local_pref 0 r)

-- what the export policy of peer j makes of what is offered; nothing goes back to the peer from which it comes
abbrev pub exported_to : Policy → ℕ → Option Candidate → Option Route
exported_to policy j None = None
exported_to policy j (Some c) = cond (c.peer == j) None (unpreferred (evaluate policy c.route))

abbrev pub exported : Rules → ℕ → Option Candidate → Option Route
exported rules j best = exported_to (rules.exports j) j (offered rules.own best)

-- what peer j should hold of prefix p, with n peers
abbrev pub intended : Rules → ℕ → Received → ℕ → ℕ → Option Route
intended rules n received j p = exported rules j (selected rules received p n)
