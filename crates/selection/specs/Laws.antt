-- What selection and export come to, in plain words. Assumes nothing.
use Rattle.std.specs.Prelude.{◌≡◌, ℕ, ◌<◌, true, false, not, ◌∷◌, Some, None, Option, ◌≢◌}
use Rattle.policy.specs.Laws.{Lengthened}
use Rattle.rib.specs.Received.{Received}
use Rattle.route.specs.Numbers.{is_in}
use Rattle.route.specs.Route.{Route, Formed}
use Rattle.selection.specs.Intended.{Rules, Candidate, imported, better, selected, intended}

-- a peer that is there announced the route, its policy imports it, and nothing that is imported is better
pub record IsBest (rules : Rules) (received : Received) (p n : ℕ) (c : Candidate) : Type 0 where
  pub peer_is_there : c.peer < n
  pub is_imported : imported rules c.peer (received c.peer p) ≡ Some c.route
  pub none_better : (i : ℕ) (r : Route) → i < n → imported rules i (received i p) ≡ Some r → better (record { peer = i; route = r }) c ≡ false

-- two sets of rules that differ in the import policy of peer i alone
pub record SameButImport (i : ℕ) (a e : Rules) : Type 0 where
  pub same_own : a.own ≡ e.own
  pub same_exports : (j : ℕ) → a.exports j ≡ e.exports j
  pub same_imports : (j : ℕ) → (j ≢ i) → a.imports j ≡ e.imports j

pub record SelectionLaws : Type 0 where
  -- what is imported was announced, and does not have the own network on its path
  pub was_announced : (rules : Rules) (i : ℕ) (x : Option Route) (r : Route) → imported rules i x ≡ Some r → (a : Route) × (x ≡ Some a)
  pub no_ring : (rules : Rules) (i : ℕ) (x : Option Route) (r : Route) → imported rules i x ≡ Some r → is_in rules.own r.path ≡ false
  -- of two candidates of different peers exactly one is better, and better is transitive
  pub one_is_better : (a e : Candidate) → (a.peer ≢ e.peer) → better a e ≡ not (better e a)
  pub transitive : (a e d : Candidate) → better a e ≡ true → better e d ≡ true → better a d ≡ true
  -- the selected route is the best, and the best is selected: so there is one best, and no order of peers goes into it
  pub is_best : (rules : Rules) (received : Received) (p n : ℕ) (c : Candidate) → selected rules received p n ≡ Some c → IsBest rules received p n c
  pub best_is_selected : (rules : Rules) (received : Received) (p n : ℕ) (c : Candidate) → IsBest rules received p n c → selected rules received p n ≡ Some c
  -- nothing is selected only where nothing is imported
  pub nothing_imported : (rules : Rules) (received : Received) (p n i : ℕ) → selected rules received p n ≡ None → i < n → imported rules i (received i p) ≡ None
  -- what a peer should hold is the selected route of another peer; in front of its path stand the own network and what the export policy prepends; it has no local preference
  pub not_back : (rules : Rules) (n : ℕ) (received : Received) (j p : ℕ) (y : Route) → intended rules n received j p ≡ Some y → (c : Candidate) × (selected rules received p n ≡ Some c) × (c.peer ≢ j)
  pub own_in_front : (rules : Rules) (n : ℕ) (received : Received) (j p : ℕ) (y : Route) (c : Candidate) → selected rules received p n ≡ Some c → intended rules n received j p ≡ Some y → Lengthened (rules.exports j) (rules.own ∷ c.route.path) y.path
  pub not_preferred : (rules : Rules) (n : ℕ) (received : Received) (j p : ℕ) (y : Route) → intended rules n received j p ≡ Some y → y.local_pref ≡ 0
  -- it has at most 32 networks and 8 communities, if what was announced has
  pub formed : (rules : Rules) (n : ℕ) (received : Received) (j p : ℕ) (y : Route) → ((i : ℕ) (a : Route) → received i p ≡ Some a → Formed a) → intended rules n received j p ≡ Some y → Formed y
  -- only what is announced of the prefix itself goes into it
  pub other_prefixes : (rules : Rules) (n : ℕ) (f g : Received) (j p : ℕ) → ((i : ℕ) → f i p ≡ g i p) → intended rules n f j p ≡ intended rules n g j p
  -- the import policy of a peer that announced nothing of the prefix does not
  pub other_imports : (a e : Rules) (n : ℕ) (received : Received) (i j p : ℕ) → SameButImport i a e → received i p ≡ None → intended a n received j p ≡ intended e n received j p
