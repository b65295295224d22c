-- What the inner steps of the server do, entry by entry. Assumes nothing.
use Rattle.std.specs.Prelude.{◌≡◌, ℕ, Bool, false, cond, not, ◌&&◌, None, Option, ◌==◌, nat_lt}
use Rattle.model.specs.Chain.{Chain}
use Rattle.model.specs.Updates.{Update, row, updates}
use Rattle.prefix.specs.Prefix.{count}
use Rattle.rib.specs.Received.{Received, Same, updated, heard, most_peers}
use Rattle.route.specs.Route.{Route}
use Rattle.selection.specs.Intended.{Rules, offered, selected}
use Rattle.telling.specs.Steps.{of_prefix, intended_by}

-- peer i's word on prefix p is x now, and all peers were told what is new of p
pub record Kept {S : Type 0} (R : S → Update → S → Type 0) (rules : Rules) (n : ℕ) (up : ℕ → Bool) (i p : ℕ) (x : Option Route) (was is : Received) (from to : S) : Type 0 where
  pub now : Same is (updated i p x was)
  pub sends : Chain R from (of_prefix p up rules.exports (offered rules.own (selected rules was p n)) (offered rules.own (selected rules is p n)) n) to

-- everybody's announcements count; nobody's do
unfoldable pub nobody : ℕ → Bool
nobody i = false

unfoldable pub everybody : ℕ → Bool
everybody i = nat_lt i most_peers

-- the sessions of a set are down, their announcements are gone, and the other peers were told what is new
pub record Silenced {S : Type 0} (R : S → Update → S → Type 0) (rules : Rules) (n : ℕ) (set : ℕ → Bool) (was is : Received) (up_was up_is : ℕ → Bool) (from to : S) : Type 0 where
  pub up : (i : ℕ) → up_is i ≡ (up_was i && not (set i))
  pub now : (i p : ℕ) → is i p ≡ cond (nat_lt i n && set i) None (was i p)
  pub sends : Chain R from (updates count up_is (intended_by rules n nobody was) (intended_by rules n set was) n) to

-- a peer's session is up, and it was told all that it should hold
pub record Welcomed {S : Type 0} (R : S → Update → S → Type 0) (rules : Rules) (n i : ℕ) (was is : Received) (up_was up_is : ℕ → Bool) (from to : S) : Type 0 where
  pub up : (j : ℕ) → up_is j ≡ cond (j == i) (nat_lt i most_peers) (up_was j)
  pub now : Same is was
  pub sends : Chain R from (row i (intended_by rules n everybody was i) (intended_by rules n nobody was i) count) to

-- other policies are in force, and all were told what is new by them
pub record Replaced {S : Type 0} (R : S → Update → S → Type 0) (old new : Rules) (n : ℕ) (was is : Received) (up : ℕ → Bool) (from to : S) : Type 0 where
  pub now : Same is was
  pub sends : Chain R from (updates count up (intended_by old n nobody was) (intended_by new n nobody was) n) to

-- whose announcements don't count goes in by its members alone
pub record SameSilence {S : Type 0} (R : S → Update → S → Type 0) (old new : Rules) (n : ℕ) (before after before' after' up : ℕ → Bool) (received : Received) (i : ℕ) : Type 0 where
  pub all : (s t : S) → ((j : ℕ) → before j ≡ before' j) → ((j : ℕ) → after j ≡ after' j) → Chain R s (updates count up (intended_by old n before received) (intended_by new n after received) n) t → Chain R s (updates count up (intended_by old n before' received) (intended_by new n after' received) n) t
  pub one : (s t : S) → ((j : ℕ) → before j ≡ before' j) → ((j : ℕ) → after j ≡ after' j) → Chain R s (row i (intended_by old n before received i) (intended_by new n after received i) count) t → Chain R s (row i (intended_by old n before' received i) (intended_by new n after' received i) count) t
  pub nobody_is : (j : ℕ) → nobody j ≡ false
  pub everybody_is : (j : ℕ) → everybody j ≡ nat_lt j most_peers

-- where everybody counts, what is selected of what is heard is what is selected
pub record SelectedHeard (rules : Rules) (silent : ℕ → Bool) (received : Received) (p n : ℕ) : Type 0 where
  pub same : ((i : ℕ) → silent i ≡ false) → selected rules (heard silent received) p n ≡ selected rules received p n
