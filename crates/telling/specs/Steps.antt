-- What telling one peer of one prefix, and going on, makes of what was sent. Assumes nothing.
use Rattle.std.specs.Prelude.{◌≡◌, ℕ, zero, suc, ◌+◌, ◌≤◌, Bool, true, false, cond, List, [], ◌++◌, Option}
use Rattle.model.specs.Chain.{Chain}
use Rattle.model.specs.Updates.{Update, Held, tell_if, row, updates}
use Rattle.rib.specs.Received.{Received, Unannounced, heard}
use Rattle.route.specs.Route.{Route}
use Rattle.route.specs.Same.{same_option}
use Rattle.policy.specs.Policy.{Policy}
use Rattle.selection.specs.Intended.{Rules, Candidate, exported_to, intended}

-- the updates of one prefix alone, to the peers below n whose sessions are up, by what was offered of it and what is now
unfoldable pub of_prefix : ℕ → (ℕ → Bool) → (ℕ → Policy) → Option Candidate → Option Candidate → ℕ → List Update
of_prefix p up exports old new zero = []
of_prefix p up exports old new (suc n) = of_prefix p up exports old new n ++ cond (up n) (tell_if n p (exported_to (exports n) n old) (exported_to (exports n) n new)) []

-- what a peer should hold where some announcements don't count
unfoldable pub intended_by : Rules → ℕ → (ℕ → Bool) → Received → Held
intended_by rules n silent received j p = intended rules n (heard silent received) j p

-- one peer, one prefix
pub record TellSteps {S : Type 0} (R : S → Update → S → Type 0) (j p : ℕ) (old new : Option Route) : Type 0 where
  pub same : (s : S) → same_option new old ≡ true → Chain R s (tell_if j p old new) s
  pub other : (s t : S) → same_option new old ≡ false → R s (record { peer = j; prefix = p; route = new }) t → Chain R s (tell_if j p old new) t

-- nobody is told whose session is down
pub record IfUpSteps {S : Type 0} (R : S → Update → S → Type 0) (up : Bool) (us : List Update) : Type 0 where
  pub not_up : (s : S) → up ≡ false → Chain R s (cond up us []) s
  pub is_up : (s t : S) → up ≡ true → Chain R s us t → Chain R s (cond up us []) t

-- one peer more, of one prefix
pub record PeerSteps {S : Type 0} (R : S → Update → S → Type 0) (p : ℕ) (up : ℕ → Bool) (exports : ℕ → Policy) (old new : Option Candidate) : Type 0 where
  pub none : (s : S) → Chain R s (of_prefix p up exports old new 0) s
  pub more : (s t v : S) (n : ℕ) → Chain R s (of_prefix p up exports old new n) t → Chain R t (cond (up n) (tell_if n p (exported_to (exports n) n old) (exported_to (exports n) n new)) []) v → Chain R s (of_prefix p up exports old new (n + 1)) v

-- one prefix more, of one peer: of prefixes that nobody has announced nothing is told; from a to e
pub record RowSteps {S : Type 0} (R : S → Update → S → Type 0) (old new : Rules) (n : ℕ) (before after : ℕ → Bool) (received : Received) (j a e : ℕ) : Type 0 where
  pub none : (s : S) → Chain R s (row j (intended_by old n before received j) (intended_by new n after received j) 0) s
  pub more : (s t v : S) → a ≤ e → Unannounced received a e → Chain R s (row j (intended_by old n before received j) (intended_by new n after received j) a) t → Chain R t (tell_if j e (intended old n (heard before received) j e) (intended new n (heard after received) j e)) v → Chain R s (row j (intended_by old n before received j) (intended_by new n after received j) (e + 1)) v
  pub skips : (s t : S) → a ≤ e → Unannounced received a e → Chain R s (row j (intended_by old n before received j) (intended_by new n after received j) a) t → Chain R s (row j (intended_by old n before received j) (intended_by new n after received j) e) t

-- one peer more, of all prefixes below m
pub record UpdateSteps {S : Type 0} (R : S → Update → S → Type 0) (up : ℕ → Bool) (old new : Held) (m n : ℕ) : Type 0 where
  pub none : (s : S) → Chain R s (updates m up old new 0) s
  pub not_up : (s t : S) → up n ≡ false → Chain R s (updates m up old new n) t → Chain R s (updates m up old new (n + 1)) t
  pub is_up : (s t v : S) → up n ≡ true → Chain R s (updates m up old new n) t → Chain R t (row n (old n) (new n) m) v → Chain R s (updates m up old new (n + 1)) v
