-- What putting a frame out does to an outbox. Assumes nothing.
use Rattle.std.specs.Prelude.{◌≡◌, ℕ, ◌<◌, Bool, false, ◌||◌, List, [], Some}
use Rattle.message_laws.specs.RoundTrip.{Sendable}
use Rattle.model.specs.Chain.{Chain}
use Rattle.model.specs.Updates.{Update}
use Rattle.outbox.specs.Frames.{Frame, frame_bytes, update_frame, reaches}
use Rattle.outbox.specs.declared.Outbox.{Outbox}
use Rattle.peers.specs.Members.{is_member}
use Rattle.prefix.specs.Prefix.{count}
use Rattle.rib.specs.Received.{most_peers}
use Rattle.route.specs.Route.{Route}

-- what counts of an outbox: where its bytes go, the server's own network and address, and to which peers a message was carried since it began
pub record Box (O : Type 0) : Type 0 where
  pub output : O
  pub own : ℕ
  pub address : ℕ
  pub reached : ℕ → Bool

abbrev pub box_of : {O : Type 0} → Outbox O → Box O
box_of s = record { output = s.output; own = s.own_asn; address = s.address; reached = is_member s.reached }

-- nobody is noted as reached
pub record Begun {O : Type 0} (output : O) (own address : ℕ) (t : Box O) : Type 0 where
  pub output_is : t.output ≡ output
  pub own_is : t.own ≡ own
  pub address_is : t.address ≡ address
  pub unreached : (j : ℕ) → t.reached j ≡ false

-- one frame was put out: its bytes were written, the peer to which it carries a message is noted as reached, and all else is as it was; W says what writing bytes does
pub record Puts {O : Type 0} (W : O → List ℕ → O → Type 0) (s : Box O) (f : Frame) (t : Box O) : Type 0 where
  pub written : W s.output (frame_bytes f) t.output
  pub reached : (j : ℕ) → j < most_peers → t.reached j ≡ (reaches j f || s.reached j)
  pub own : t.own ≡ s.own
  pub address : t.address ≡ s.address

-- the same of outboxes, and of a row of frames
abbrev pub PutsBy : {O : Type 0} → (O → List ℕ → O → Type 0) → Outbox O → Frame → Outbox O → Type 0
PutsBy W s f t = Puts W (box_of s) f (box_of t)

abbrev pub PutsAll : {O : Type 0} → (O → List ℕ → O → Type 0) → Outbox O → List Frame → Outbox O → Type 0
PutsAll W s fs t = Chain (Puts W) (box_of s) fs (box_of t)

-- what is held back was handed on: no byte more was written, and all else is as it was
pub record Flushes {O : Type 0} (W : O → List ℕ → O → Type 0) (s t : Box O) : Type 0 where
  pub written : W s.output [] t.output
  pub reached : (j : ℕ) → t.reached j ≡ s.reached j
  pub own : t.own ≡ s.own
  pub address : t.address ≡ s.address

-- an update that can be told: its number is that of a prefix, and its route is formed as routes are, of numbers of 32 bits
pub record Tellable (u : Update) : Type 0 where
  pub numbered : u.prefix < count
  pub sendable : (r : Route) → u.route ≡ Some r → Sendable r

-- an update that can be told was put out in a frame, by the server's own address
pub record Sends {O : Type 0} (W : O → List ℕ → O → Type 0) (s : Box O) (u : Update) (t : Box O) : Type 0 where
  pub puts : Puts W s (update_frame s.address u) t
  pub tellable : Tellable u

-- the same of outboxes
abbrev pub SendsBy : {O : Type 0} → (O → List ℕ → O → Type 0) → Outbox O → Update → Outbox O → Type 0
SendsBy W s u t = Sends W (box_of s) u (box_of t)
