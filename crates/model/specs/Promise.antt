-- What is promised of the whole. Assumes nothing.
use Rattle.std.specs.Prelude.{◌≡◌, ℕ, ◌<◌, ◌≤◌, true, false, List, ◌∷◌, ◌++◌, length, Some, ◌≢◌, slice_index_or}
use Rattle.model.specs.Model.{Size, Event, Announces, Withdraws, after, intended_in, history, holds, sent}
use Rattle.route.specs.Same.{same_option}
use Rattle.model.specs.Updates.{Update, Sent, Tells, held_after, nothing, in_order}
use Rattle.prefix.specs.Prefix.{number}
use Rattle.rib.specs.Received.{stored}
use Rattle.route.specs.Numbers.{is_in}
use Rattle.route.specs.Route.{Route}
use Rattle.selection.specs.Intended.{Rules, Candidate, selected}
use Rattle.selection.specs.Laws.{IsBest}

-- an update in what was sent, with what was sent before it
pub record At (ss : List Sent) (before : List Sent) (u : Update) : Type 0 where
  pub behind : List Sent
  pub whole : ss ≡ before ++ (Tells u ∷ behind)

-- Whatever peers say, whenever sessions come up and go down, however policies change:
pub record Whole (z : Size) (rules : Rules) (es : List Event) : Type 0 where
  -- each peer whose session is up holds of each prefix exactly what the policies of now and everybody's last announcements mean, worked out from nothing
  pub exact : (j p : ℕ) → j < z.peers → p < z.prefixes → (after z rules es).up j ≡ true → holds z rules es j p ≡ intended_in z (after z rules es) j p
  -- the selected route was announced and imported, nothing imported is better, and it does not pass the own network
  pub best : (p : ℕ) (c : Candidate) → selected (after z rules es).rules (after z rules es).received p z.peers ≡ Some c → IsBest (after z rules es).rules (after z rules es).received p z.peers c
  pub no_ring : (p : ℕ) (c : Candidate) → selected (after z rules es).rules (after z rules es).received p z.peers ≡ Some c → is_in rules.own c.route.path ≡ false
  -- nothing is given to the peer from which it comes
  pub not_back : (j p : ℕ) (y : Route) → intended_in z (after z rules es) j p ≡ Some y → (c : Candidate) × (selected (after z rules es).rules (after z rules es).received p z.peers ≡ Some c) × (c.peer ≢ j)
  -- each update tells something that the peer does not hold
  pub only_new : (before : List Sent) (u : Update) → At (history z rules es) before u → same_option u.route (held_after nothing before u.peer u.prefix) ≡ false
  -- what a peer says of one prefix changes nothing that is held of another, unless there is no room for it
  pub other_prefixes : (i q j : ℕ) (r : Route) → (number r.prefix ≢ q) → (after z rules (Announces i r ∷ es)).up i ≡ (after z rules es).up i → holds z rules (Announces i r ∷ es) j q ≡ holds z rules es j q
  pub other_withdrawn : (i p q j : ℕ) → (p ≢ q) → (after z rules (Withdraws i p ∷ es)).up i ≡ (after z rules es).up i → holds z rules (Withdraws i p ∷ es) j q ≡ holds z rules es j q
  -- never more is remembered than there is room for
  pub in_capacity : stored z.peers z.prefixes (after z rules es).received ≤ z.capacity

-- of the updates that one event brings
pub record Sends (z : Size) (rules : Rules) (e : Event) (es : List Event) : Type 0 where
  -- peers rise, and for each peer prefixes
  pub ordered : in_order (sent z rules e es) ≡ true
  -- nothing goes to a peer whose session is down, or that isn't there
  pub only_up : (k : ℕ) (u : Update) → k < length (sent z rules e es) → slice_index_or (sent z rules e es) k u ≡ u → (u.peer < z.peers) × ((after z rules (e ∷ es)).up u.peer ≡ true)

-- THE MAIN PROMISE, over every list of events
abbrev pub Main : Type 0
Main = (z : Size) (rules : Rules) (es : List Event) → Whole z rules es

abbrev pub Order : Type 0
Order = (z : Size) (rules : Rules) (e : Event) (es : List Event) → Sends z rules e es
