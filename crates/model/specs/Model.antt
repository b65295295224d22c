-- The route server as it should be: what it goes by after events, and what it sends. Assumes nothing.
use Rattle.std.specs.Prelude.{ℕ, Bool, true, false, cond, ◌&&◌, List, [], ◌∷◌, ◌++◌, Some, None, Option, ◌==◌, nat_le, nat_lt}
use Rattle.model.specs.Updates.{Update, Held, updates, Sent, Begins, tells, held_after, nothing}
use Rattle.policy.specs.Policy.{Policy}
use Rattle.prefix.specs.Prefix.{number}
use Rattle.rib.specs.Received.{Received, updated, cleared, stored}
use Rattle.route.specs.Route.{Route}
use Rattle.selection.specs.Intended.{Rules, intended}

-- how many peers and prefixes there are, and how many routes are remembered at the most
pub record Size : Type 0 where
  pub peers : ℕ
  pub prefixes : ℕ
  pub capacity : ℕ

-- a peer announces a route, or withdraws a prefix; a session is established; some sessions go down at one moment; policies are put in force
pub data Event : Type 0 where
  Announces : (peer : ℕ) → Route → Event
  Withdraws : (peer prefix : ℕ) → Event
  Establishes : (peer : ℕ) → Event
  GoDown : (peers : List ℕ) → Event
  PutInForce : (imports exports : ℕ → Policy) → Event

-- what counts now: the rules, whose session is up, and what each peer last announced since its session came up
pub record Now : Type 0 where
  pub rules : Rules
  pub up : ℕ → Bool
  pub received : Received

abbrev pub at : {A : Type 0} → ℕ → A → (ℕ → A) → ℕ → A
at i x f j = cond (j == i) x (f j)

-- a peer whose session is down has announced nothing
abbrev pub down : ℕ → Now → Now
down i s = record { rules = s.rules; up = at i false s.up; received = cleared i s.received }

unfoldable pub all_down : List ℕ → Now → Now
all_down [] s = s
all_down (i ∷ is) s = down i (all_down is s)

-- what a peer says of a prefix counts if its session is up; if there is no room for it, the session goes down
abbrev pub says : Size → ℕ → ℕ → Option Route → Now → Now
says z i p x s =
    cond (nat_lt i z.peers && (nat_lt p z.prefixes && s.up i))
    (cond (nat_le (stored z.peers z.prefixes (updated i p x s.received)) z.capacity) (record { rules = s.rules; up = s.up; received = updated i p x s.received }) (down i s))
    s

abbrev pub step : Size → Event → Now → Now
step z (Announces i r) s = says z i (number r.prefix) (Some r) s
step z (Withdraws i p) s = says z i p None s
step z (Establishes i) s = record { rules = s.rules; up = at i true s.up; received = cleared i s.received }
step z (GoDown is) s = all_down is s
step z (PutInForce imports exports) s = record { rules = record { own = s.rules.own; imports = imports; exports = exports }; up = s.up; received = s.received }

-- at the start no session is up
abbrev pub start : Rules → Now
start rules = record { rules = rules; up = λ i. false; received = λ i p. None }

-- after events, the latest first
unfoldable pub after : Size → Rules → List Event → Now
after z rules [] = start rules
after z rules (e ∷ es) = step z e (after z rules es)

-- what peers should hold
abbrev pub intended_in : Size → Now → Held
intended_in z s j p = intended s.rules z.peers s.received j p

-- a peer whose session is established begins with nothing
abbrev pub begins : Event → List Sent
begins (Announces i r) = []
begins (Withdraws i p) = []
begins (Establishes i) = Begins i ∷ []
begins (GoDown is) = []
begins (PutInForce imports exports) = []

-- each peer whose session is up is told where what it should hold isn't what it holds by all that was sent to it
abbrev pub news : Size → Now → Held → List Update
news z s held = updates z.prefixes s.up held (intended_in z s) z.peers

-- all that was sent, in its order
unfoldable pub history : Size → Rules → List Event → List Sent
history z rules [] = []
history z rules (e ∷ es) = history z rules es ++ (begins e ++ tells (news z (after z rules (e ∷ es)) (held_after nothing (history z rules es ++ begins e))))

-- what peers hold after events that did as they were told
abbrev pub holds : Size → Rules → List Event → Held
holds z rules es = held_after nothing (history z rules es)

-- the updates that an event brings
abbrev pub sent : Size → Rules → Event → List Event → List Update
sent z rules e es = news z (after z rules (e ∷ es)) (held_after nothing (history z rules es ++ begins e))
