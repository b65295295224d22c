-- What one message, one loss of a connection, or one text does: to the peer's session, in frames that go out at once, and as a row of the model's events. Assumes nothing.
use Rattle.std.specs.Prelude.{ℕ, cond, List, [], ◌∷◌}
use Rattle.attributes.specs.AsPath.{Reading, got, fault}
use Rattle.attributes.specs.Meaning.{Peer}
use Rattle.message.specs.Message.{Message, Opens, Updates, Notifies, KeepsAlive, read_message}
use Rattle.message.specs.declared.State.TheVariants as at
use Rattle.message_write.specs.Written.{keepalive_bytes, notification_bytes, open_bytes}
use Rattle.model.specs.Model.{Event, Establishes, GoDown, PutInForce}
use Rattle.outbox.specs.Frames.{Frame, Carries, Closes}
use Rattle.policy_tables.specs.Texts.{Outcome, Read, Refused, policy_for}
use Rattle.policy_tables.specs.declared.Direction.TheVariants.{Import, Export}
use Rattle.rib.specs.Received.{Received}
use Rattle.session.specs.Session.{Session, down, is_down, opened, established, heard_now}
use Rattle.session.specs.declared.Phase.{Phase}
use Rattle.session.specs.declared.Phase.TheVariants.{Down, OpenSent, Established}
use Rattle.update.specs.Update.{Content}
use Rattle.update_events.specs.Words.{words, lacks_room}

-- the peer's session afterwards; the frames that go out before all updates; the events
pub record Effect : Type 0 where
  pub session : Session
  pub first : List Frame
  pub row : List Event

-- all stays as it is
abbrev pub nothing : Session → Effect
nothing s = record { session = s; first = []; row = [] }

-- the session of peer i goes down
abbrev pub going_down : ℕ → List Frame → Effect
going_down i first = record { session = down; first = first; row = GoDown (i ∷ []) ∷ [] }

-- the server takes the session down for a fault: a NOTIFICATION with its number, and the session's end
abbrev pub fault_frames : ℕ → ℕ → List Frame
fault_frames i k = Carries i (notification_bytes k) ∷ Closes i ∷ []

abbrev pub taken_down : ℕ → ℕ → Effect
taken_down i k = going_down i (fault_frames i k)

-- an UPDATE: refused whole, fault 9, where it needs more room than is left; else its words are taken
abbrev pub update_effect : ℕ → Received → List ℕ → Session → Content → Effect
update_effect i received m s c = cond (lacks_room i c m received) (taken_down i 9) (record { session = heard_now s; first = []; row = words i c m })

-- a right OPEN came: the session is up, with a KEEPALIVE at once
abbrev pub coming_up : ℕ → Session → Effect
coming_up i s = record { session = established s; first = Carries i keepalive_bytes ∷ []; row = Establishes i ∷ [] }

-- a message of peer i while its OPEN is awaited, by what is read: a fault takes the session down; a right OPEN brings it up, with a KEEPALIVE at once; a NOTIFICATION takes it down, and none goes back; anything else comes too early, fault 3
abbrev pub awaited_effect : ℕ → Session → Reading Message → Effect
awaited_effect i s (fault k) = taken_down i k
awaited_effect i s (got (Opens o)) = coming_up i s
awaited_effect i s (got (Updates c)) = taken_down i 3
awaited_effect i s (got (Notifies code subcode)) = going_down i (Closes i ∷ [])
awaited_effect i s (got KeepsAlive) = taken_down i 3

-- a message on an established session: a second OPEN isn't awaited, fault 2
abbrev pub taken_effect : ℕ → Received → List ℕ → Session → Message → Effect
taken_effect i received m s (Opens o) = taken_down i 2
taken_effect i received m s (Updates c) = update_effect i received m s c
taken_effect i received m s (Notifies code subcode) = going_down i (Closes i ∷ [])
taken_effect i received m s KeepsAlive = nothing (heard_now s)

abbrev pub established_effect : ℕ → Received → List ℕ → Session → Reading Message → Effect
established_effect i received m s (fault k) = taken_down i k
established_effect i received m s (got x) = taken_effect i received m s x

-- bytes on a session that is down are dropped
abbrev pub phase_effect : Peer → ℕ → Received → List ℕ → Session → Phase → Effect
phase_effect peer i received m s Down = nothing s
phase_effect peer i received m s OpenSent = awaited_effect i s (read_message at.OpenSent peer m)
phase_effect peer i received m s Established = established_effect i received m s (read_message at.Established peer m)

abbrev pub message_effect : Peer → ℕ → Received → List ℕ → Session → Effect
message_effect peer i received m s = phase_effect peer i received m s s.phase

-- the connection comes up: the server sends its OPEN, by its own network and address; where the session isn't down this is passed over
abbrev pub up_effect : ℕ → ℕ → ℕ → Session → Effect
up_effect own address i s = cond (is_down s) (record { session = opened s; first = Carries i (open_bytes own address) ∷ []; row = [] }) (nothing s)

-- the connection is lost; where the session is down this is passed over
abbrev pub loss_effect : ℕ → Session → Effect
loss_effect i s = cond (is_down s) (nothing s) (going_down i [])

-- a policy text that is read is put in force; one that is refused is no event
abbrev pub text_row : Outcome → List Event
text_row (Read content) = PutInForce (policy_for content Import) (policy_for content Export) ∷ []
text_row (Refused at awaited) = []
