-- What a speaker's state stands for, and what the inner steps do to it. Assumes nothing.
use Rattle.std.specs.Prelude.{◌≡◌, ℕ, ◌<◌, ◌≤◌, false, List}
use Rattle.frame.specs.Frame.{Happening}
use Rattle.frame.specs.Settings.{Exchange, exchange}
use Rattle.model.specs.Chain.{Chain}
use Rattle.model.specs.Model.{Now}
use Rattle.model.specs.Rows.{PromisedAll}
use Rattle.outbox.specs.Outbox.{box_of, Puts, SendsBy}
use Rattle.outbox.specs.declared.Outbox.{Outbox}
use Rattle.policy_tables.specs.Meant.{content_of}
use Rattle.policy_tables.specs.Texts.{policy_for}
use Rattle.policy_tables.specs.declared.Direction.TheVariants.{Import, Export}
use Rattle.rib.specs.Received.{Received, most_peers}
use Rattle.server.specs.Meant.{now_of, size_of}
use Rattle.session.specs.Session.{Session, down, is_down, is_established}
use Rattle.session.specs.declared.Phase.TheVariants.{OpenSent}
use Rattle.sessions.specs.Sessions.{sessions_of}
use Rattle.speaker.specs.declared.Speaker.{Speaker}
use Rattle.speaker_model.specs.Effects.{Effect}
use Rattle.speaker_model.specs.World.{Step, count_of, peer_step, step_by}

-- what the speaker goes by: the settings, the sessions, what counts in the model, how many peers the server has, and where frames go
pub record State (O : Type 0) : Type 0 where
  pub exchange : Exchange
  pub sessions : ℕ → Session
  pub now : Now
  pub peers : ℕ
  pub outbox : Outbox O

abbrev pub state_of : {R O : Type 0} → (R → Received) → Speaker R O → State O
state_of received s = record { exchange = exchange s.settings; sessions = sessions_of s.sessions; now = now_of s.server.own_asn (policy_for (content_of s.server.policies) Import) (policy_for (content_of s.server.policies) Export) s.server.up (received s.server.rib); peers = s.server.peers; outbox = s.outbox }

-- the session of a peer
abbrev pub session_in : {R O : Type 0} → Speaker R O → ℕ → Session
session_in s = sessions_of s.sessions

-- it isn't down; the peer's OPEN is awaited
abbrev pub NotDown : {R O : Type 0} → Speaker R O → ℕ → Type 0
NotDown s i = is_down (session_in s i) ≡ false

abbrev pub AwaitsOpen : {R O : Type 0} → Speaker R O → ℕ → Type 0
AwaitsOpen s i = (session_in s i).phase ≡ OpenSent

-- the server has the peers of the settings, just the established sessions are up in it, and other sessions are down
pub record Level {O : Type 0} (s : State O) : Type 0 where
  pub peers : s.peers ≡ count_of s.exchange
  pub few : s.peers ≤ most_peers
  pub up : (i : ℕ) → i < s.peers → s.now.up i ≡ is_established (s.sessions i)
  pub outside : (i : ℕ) → s.peers ≤ i → s.sessions i ≡ down

-- frames go out by the own network and address of the settings
pub record Addressed {O : Type 0} (s : State O) : Type 0 where
  pub own : s.outbox.own_asn ≡ s.exchange.asn
  pub address : s.outbox.address ≡ s.exchange.address

-- a step was taken: the sessions are as it says, its first frames went out, and then the updates of its row
pub record Takes {O : Type 0} (W : O → List ℕ → O → Type 0) (step : Step) (s t : State O) : Type 0 where
  pub exchange : t.exchange ≡ s.exchange
  pub peers : t.peers ≡ s.peers
  pub sessions : (i : ℕ) → t.sessions i ≡ step.sessions i
  pub middle : Outbox O
  pub first : Addressed s → Chain (Puts W) (box_of s.outbox) step.first (box_of middle)
  pub row : Level s → PromisedAll (size_of s.peers) step.row s.now t.now (SendsBy W) middle t.outbox

-- a call does this to one peer
abbrev pub Does : {R O : Type 0} → (R → Received) → (O → List ℕ → O → Type 0) → ℕ → Effect → Speaker R O → Speaker R O → Type 0
Does received W i effect s t = Takes W (peer_step i effect (session_in s)) (state_of received s) (state_of received t)

-- a call takes the step of what happens
abbrev pub Handles : {R O : Type 0} → (R → Received) → (O → List ℕ → O → Type 0) → Happening → Speaker R O → Speaker R O → Type 0
Handles received W h s t = Takes W (step_by (exchange s.settings) (received s.server.rib) h (session_in s)) (state_of received s) (state_of received t)
