-- The whole server over the frames that come in: its sessions, the events that they come to, and the frames that go out. Assumes nothing.
use Rattle.std.specs.Prelude.{ℕ, zero, suc, Bool, true, false, cond, ◌||◌, List, [], ◌∷◌, ◌++◌, length, nat_lt, slice_index_or}
use Rattle.attributes.specs.Meaning.{Peer}
use Rattle.frame.specs.Frame.{Happening, message, up, tick, policy_text}
use Rattle.frame.specs.Frame as frame
use Rattle.frame.specs.Settings.{Exchange}
use Rattle.message_write.specs.Written.{keepalive_bytes}
use Rattle.model.specs.Model.{Size, Event, GoDown, Now, at, after}
use Rattle.model.specs.Rows.{then_all, sent_all}
use Rattle.outbox.specs.Frames.{Frame, Carries, update_frames, reaches_any}
use Rattle.policy_tables.specs.Texts.{meaning}
use Rattle.selection.specs.Intended.{Rules}
use Rattle.server.specs.Meant.{size_of, members_below}
use Rattle.rib.specs.Received.{Received}
use Rattle.session.specs.Session.{Session, down, sent_now, is_keepalive_due}
use Rattle.sessions.specs.Sessions.{silent_in, sessions_later}
use Rattle.speaker_model.specs.Effects.{Effect, message_effect, up_effect, loss_effect, text_row, fault_frames}

-- the sessions by peer, and the events so far, the latest first
pub record World : Type 0 where
  pub sessions : ℕ → Session
  pub events : List Event

abbrev pub count_of : Exchange → ℕ
count_of x = length x.peers

abbrev pub size_in : Exchange → Size
size_in x = size_of (count_of x)

-- before the first text nobody has a clause
abbrev pub rules_at_start : Exchange → Rules
rules_at_start x = record { own = x.asn; imports = λ i. []; exports = λ i. [] }

-- what counts after the events
abbrev pub now_in : Exchange → World → Now
now_in x w = after (size_in x) (rules_at_start x) w.events

-- a peer of the settings, as its messages are read
abbrev pub member_of : Exchange → ℕ → Peer
member_of x i = record { asn = (slice_index_or x.peers i (record { asn = 0; address = 0 })).asn; address = (slice_index_or x.peers i (record { asn = 0; address = 0 })).address }

-- what a frame that comes in does: the sessions afterwards, the frames that go out before all updates, and the row of events
pub record Step : Type 0 where
  pub sessions : ℕ → Session
  pub first : List Frame
  pub row : List Event

abbrev pub no_step : (ℕ → Session) → Step
no_step sessions = record { sessions = sessions; first = []; row = [] }

-- what happens to one peer
abbrev pub peer_step : ℕ → Effect → (ℕ → Session) → Step
peer_step i e sessions = record { sessions = at i e.session sessions; first = e.first; row = e.row }

-- one of the peers below n is so
unfoldable pub any_below : ℕ → (ℕ → Bool) → Bool
any_below zero set = false
any_below (suc n) set = any_below n set || set n

-- those below n go down as one event, if there are any
abbrev pub down_row : ℕ → (ℕ → Bool) → List Event
down_row n set = cond (any_below n set) (GoDown (members_below n set) ∷ []) []

-- for each of them below n, rising, a NOTIFICATION with the fault's number and the session's end
unfoldable pub down_frames : ℕ → (ℕ → Bool) → ℕ → List Frame
down_frames fault set zero = []
down_frames fault set (suc n) = down_frames fault set n ++ cond (set n) (fault_frames n fault) []

-- at a tick all whose time ran out go down at one moment (fault 13)
abbrev pub tick_step : ℕ → (ℕ → Session) → Step
tick_step n sessions = record { sessions = sessions_later sessions; first = down_frames 13 (silent_in sessions) n; row = down_row n (silent_in sessions) }

-- what each frame does, by what peers have announced and by the sessions; to a peer that the settings don't have no session is opened
abbrev pub step_by : Exchange → Received → Happening → (ℕ → Session) → Step
step_by x received (message i m) sessions = peer_step i (message_effect (member_of x i) i received m (sessions i)) sessions
step_by x received (up i) sessions = cond (nat_lt i (count_of x)) (peer_step i (up_effect x.asn x.address i (sessions i)) sessions) (no_step sessions)
step_by x received (frame.down i) sessions = peer_step i (loss_effect i (sessions i)) sessions
step_by x received tick sessions = tick_step (count_of x) sessions
step_by x received (policy_text t) sessions = record { sessions = sessions; first = []; row = text_row (meaning (count_of x) t) }

abbrev pub step_of : Exchange → Happening → World → Step
step_of x h w = step_by x (now_in x w).received h w.sessions

-- the clock of what was sent begins anew for each peer that a frame reaches
unfoldable pub noted : List Frame → (ℕ → Session) → ℕ → Session
noted fs sessions j = cond (reaches_any j fs) (sent_now (sessions j)) (sessions j)

-- a KEEPALIVE for each session below n on which one is due, rising
unfoldable pub keepalives : (ℕ → Session) → ℕ → List Frame
keepalives sessions zero = []
keepalives sessions (suc n) = keepalives sessions n ++ cond (is_keepalive_due (sessions n)) (Carries n keepalive_bytes ∷ []) []

abbrev pub is_tick : Happening → Bool
is_tick (message i m) = false
is_tick (up i) = false
is_tick (frame.down i) = false
is_tick tick = true
is_tick (policy_text t) = false

-- keepalives go at ticks
abbrev pub keepalives_at : Happening → (ℕ → Session) → ℕ → List Frame
keepalives_at h sessions n = cond (is_tick h) (keepalives sessions n) []

-- the frames of a step: those that go out first, and then the updates of its events, each in a frame of its own
unfoldable pub step_frames : Exchange → Step → List Event → List Frame
step_frames x s events = s.first ++ update_frames x.address (sent_all (size_in x) (rules_at_start x) s.row events)

-- all that a frame that comes in makes go out: the frames of its step, and at a tick the keepalives that are still due
unfoldable pub frames_of : Exchange → Happening → World → List Frame
frames_of x h w = step_frames x (step_of x h w) w.events ++ keepalives_at h (noted (step_frames x (step_of x h w) w.events) (step_of x h w).sessions) (count_of x)

-- the world afterwards
unfoldable pub world_of : Exchange → Happening → World → World
world_of x h w = record { sessions = noted (frames_of x h w) (step_of x h w).sessions; events = then_all (step_of x h w).row w.events }

-- at the start all sessions are down
abbrev pub world_at_start : World
world_at_start = record { sessions = λ i. down; events = [] }

-- after frames that came in, the latest first
unfoldable pub world_after : Exchange → List Happening → World
world_after x [] = world_at_start
world_after x (h ∷ hs) = world_of x h (world_after x hs)

-- all that went out, in its order
unfoldable pub frames_after : Exchange → List Happening → List Frame
frames_after x [] = []
frames_after x (h ∷ hs) = frames_after x hs ++ frames_of x h (world_after x hs)
