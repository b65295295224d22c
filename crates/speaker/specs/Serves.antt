-- What is promised of one event in bytes, whatever came before. Assumes nothing.
use Rattle.std.specs.Prelude.{◌≡◌, ℕ, ◌≤◌, List, ◌∷◌}
use Rattle.frame.specs.Frame.{Happening}
use Rattle.model.specs.Chain.{Chain}
use Rattle.model.specs.Rows.{sent_all}
use Rattle.model.specs.Stands as model
use Rattle.outbox.specs.Laws.{AllTellable, Written}
use Rattle.outbox.specs.Outbox.{Begun, Puts, box_of}
use Rattle.outbox.specs.declared.Outbox.{Outbox}
use Rattle.peers.specs.Members.{is_member}
use Rattle.rib.specs.Received.{most_peers}
use Rattle.sessions.specs.Sessions.{sent_to}
use Rattle.speaker.specs.State.{State, Addressed, Takes}
use Rattle.speaker_model.specs.Laws.{WorldLaws}
use Rattle.speaker_model.specs.Promise.{AllTold, BytePromise}
use Rattle.speaker_model.specs.World.{count_of, size_in, rules_at_start, step_by, step_of, keepalives_at, frames_of, world_after}

-- a state goes by all frames that came in so far, the latest first
pub record Stands {O : Type 0} (s : State O) (hs : List Happening) : Type 0 where
  pub sessions : (i : ℕ) → s.sessions i ≡ (world_after s.exchange hs).sessions i
  pub model : model.Stands (size_in s.exchange) (rules_at_start s.exchange) s.now (world_after s.exchange hs).events
  pub peers : s.peers ≡ count_of s.exchange
  pub few : count_of s.exchange ≤ most_peers
  pub addressed : Addressed s

-- after one more frame: the state goes by it too; just the frames that it makes go out were written, in their order; and each update among them could be told
pub record Served {O : Type 0} (W : O → List ℕ → O → Type 0) (h : Happening) (hs : List Happening) (s t : State O) : Type 0 where
  pub exchange : t.exchange ≡ s.exchange
  pub stands : Stands t (h ∷ hs)
  pub written : Written W s.outbox.output (frames_of s.exchange h (world_after s.exchange hs)) t.outbox.output
  pub tellable : AllTellable (sent_all (size_in s.exchange) (rules_at_start s.exchange) (step_of s.exchange h (world_after s.exchange hs)).row (world_after s.exchange hs).events)

-- so it is whatever came before
pub record Serves {O : Type 0} (W : O → List ℕ → O → Type 0) (h : Happening) (s t : State O) : Type 0 where
  pub serves : (hs : List Happening) → Stands s hs → Served W h hs s t

-- what is left to do behind a step: the clocks of what was sent begin anew, and at a tick the keepalives go that are still due
pub record Finishes {O : Type 0} (W : O → List ℕ → O → Type 0) (h : Happening) (s t : State O) : Type 0 where
  pub exchange : t.exchange ≡ s.exchange
  pub peers : t.peers ≡ s.peers
  pub now : t.now ≡ s.now
  pub kept_alive : Chain (Puts W) (box_of s.outbox) (keepalives_at h (sent_to (is_member s.outbox.reached) s.sessions) (count_of s.exchange)) (box_of t.outbox)
  pub sessions : (i : ℕ) → t.sessions i ≡ sent_to (is_member t.outbox.reached) s.sessions i

abbrev pub with_outbox : {O : Type 0} → Outbox O → State O → State O
with_outbox box s = record { exchange = s.exchange; sessions = s.sessions; now = s.now; peers = s.peers; outbox = box }

-- THE STEPS OF ONE EVENT, one after the other: nobody is reached yet, the event's step is taken, and it is finished
pub record Lifts {O : Type 0} (W : O → List ℕ → O → Type 0) (h : Happening) : Type 0 where
  pub lift : (s t u : State O) (begun : Outbox O) → Begun s.outbox.output s.outbox.own_asn s.outbox.address (box_of begun) → Takes W (step_by s.exchange s.now.received h s.sessions) (with_outbox begun s) t → Finishes W h t u → Serves W h s u

-- THE PROMISE, of one event in bytes, whatever came before and however it was damaged: the state goes by it, just the frames that it makes go out were written, all of them could be told; so each peer that did as the bytes sent to it say holds exactly what it should, each UPDATE told it something that it did not hold, and no peer's bytes touched what another announced
pub record Kept {O : Type 0} (W : O → List ℕ → O → Type 0) (h : Happening) (hs : List Happening) (s t : State O) : Type 0 where
  pub served : Served W h hs s t
  pub told : AllTold s.exchange (h ∷ hs)
  pub promise : BytePromise s.exchange (h ∷ hs)
  pub laws : WorldLaws s.exchange (world_after s.exchange hs)

pub record Promised {O : Type 0} (W : O → List ℕ → O → Type 0) (h : Happening) (s t : State O) : Type 0 where
  pub keeps : (hs : List Happening) → Stands s hs → AllTold s.exchange hs → Kept W h hs s t
