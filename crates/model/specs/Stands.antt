-- After which events a server's state stands, and what an event must do to it. Assumes nothing.
use Rattle.std.specs.Prelude.{◌≡◌, ℕ, ◌<◌, ◌≤◌, false, List, ◌∷◌, None}
use Rattle.model.specs.Chain.{Chain}
use Rattle.model.specs.Model.{Size, Event, Now, step, after, intended_in, begins, sent}
use Rattle.model.specs.Promise.{Whole, Sends}
use Rattle.model.specs.Updates.{Update, Held, updates, held_after}
use Rattle.rib.specs.Received.{most_peers, stored}
use Rattle.selection.specs.Intended.{Rules}

-- both go by the same, for the peers and prefixes that there are
pub record Alike (z : Size) (s t : Now) : Type 0 where
  pub own : s.rules.own ≡ t.rules.own
  pub imports : (i : ℕ) → i < z.peers → s.rules.imports i ≡ t.rules.imports i
  pub exports : (i : ℕ) → i < z.peers → s.rules.exports i ≡ t.rules.exports i
  pub up : (i : ℕ) → i < z.peers → s.up i ≡ t.up i
  pub received : (i p : ℕ) → i < z.peers → p < z.prefixes → s.received i p ≡ t.received i p

-- there are at most 64 peers, no session is up but theirs, no announcement is kept but of sessions that are up, and no more than there is room for
pub record Sound (z : Size) (s : Now) : Type 0 where
  pub few : z.peers ≤ most_peers
  pub outside : (i : ℕ) → z.peers ≤ i → s.up i ≡ false
  pub silent : (i p : ℕ) → s.up i ≡ false → s.received i p ≡ None
  pub fits : stored z.peers z.prefixes s.received ≤ z.capacity

-- a state goes by all events so far, the latest first
pub record Stands (z : Size) (rules : Rules) (s : Now) (es : List Event) : Type 0 where
  pub sound : Sound z s
  pub alike : Alike z s (after z rules es)

-- what peers hold by what was intended before an event, as its updates go out
abbrev pub held_before : Size → Event → Now → Held
held_before z e s = held_after (intended_in z s) (begins e)

-- an event makes t of s, and sends just what is new in t
pub record Steps {S : Type 0} (z : Size) (e : Event) (s t : Now) (R : S → Update → S → Type 0) (from to : S) : Type 0 where
  pub sound : Sound z t
  pub alike : Alike z t (step z e s)
  pub sends : Chain R from (updates z.prefixes t.up (held_before z e s) (intended_in z t) z.peers) to

-- THE PROMISE, of one event, whatever came before: the state goes by all events, just the event's updates were sent, in their order, and everything that is promised of the whole holds
pub record Keeps {S : Type 0} (z : Size) (rules : Rules) (e : Event) (es : List Event) (t : Now) (R : S → Update → S → Type 0) (from to : S) : Type 0 where
  pub stands : Stands z rules t (e ∷ es)
  pub sends : Chain R from (sent z rules e es) to
  pub whole : Whole z rules (e ∷ es)
  pub updates_are : Sends z rules e es

abbrev pub Promised : {S : Type 0} → Size → Event → Now → Now → (S → Update → S → Type 0) → S → S → Type 0
Promised z e s t R from to = (rules : Rules) (es : List Event) → Stands z rules s es → Keeps z rules e es t R from to
