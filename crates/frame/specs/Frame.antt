-- What bytes begin with: a whole frame and what it says, one that is passed over, a part of one, or none that can be
-- read. Assumes nothing.
use Rattle.std.specs.Prelude.{ℕ, Ok, Err, Result, cond, List, length, drop, ◌==◌, nat_lt, slice_index}
use Rattle.frame.specs.Settings.{Exchange, settings_at}
use Rattle.frame.specs.Size.{Begins, framed, too_long, partial, unknown, begins}
use Rattle.frame.specs.declared.kind.Kind.{Kind}
use Rattle.frame.specs.declared.kind.Kind.TheVariants.{Message, Session, Tick, PolicyText, Settings}
use Rattle.frame.specs.declared.event.Refusal.{Refusal}
use Rattle.frame.specs.declared.event.Refusal.TheVariants.{NoSettings, SettingsAgain, TooManyPeers, TextTooLong}
use Rattle.frame.specs.declared.event.Defect.{Defect}
use Rattle.frame.specs.declared.event.Defect.TheVariants.{UnknownKind, UnknownPeer, UnknownState}
use Rattle.frame.specs.declared.event.Event.{Event}
use Rattle.frame.specs.declared.event.Event.TheVariants as event
use Rattle.frame.specs.declared.event.Unread.{Unread}
use Rattle.frame.specs.declared.event.Unread.TheVariants as unread_as
use Rattle.frame.specs.declared.event.Whole.{Whole}

-- what a frame says to a server that has settings
pub data Happening : Type 0 where
  message : (peer : ℕ) (bytes : List ℕ) → Happening
  up : (peer : ℕ) → Happening
  down : (peer : ℕ) → Happening
  tick : Happening
  policy_text : (text : List ℕ) → Happening

-- what bytes begin with, where a frame that is taken says an X
pub data Outcome (X : Type 0) : Type 0 where
  whole : X → (size : ℕ) → Outcome X
  refused : Refusal → (size : ℕ) → Outcome X
  more : Outcome X
  unreadable : Defect → Outcome X

-- what is made of the bytes at hand: of a frame with all its bytes what `look` makes of it, and one that is too long is
-- refused for `long`
abbrev pub outcome : {X : Type 0} → (Kind → List ℕ → Outcome X) → Refusal → Begins → Outcome X
outcome look long (framed k frame) = look k frame
outcome look long (too_long n) = refused long n
outcome look long partial = more
outcome look long unknown = unreadable UnknownKind

-- the third byte of a session frame is 0 or 1
abbrev pub with_state : List ℕ → {X : Type 0} → Outcome X → Outcome X → Outcome X
with_state frame off on = cond (slice_index frame 2 == 0) off (cond (slice_index frame 2 == 1) on (unreadable UnknownState))

-- before settings: only settings are taken, with at most 64 peers
abbrev pub before_settings : Kind → List ℕ → Outcome Exchange
before_settings Message frame = refused NoSettings (length frame)
before_settings Session frame = with_state frame (refused NoSettings (length frame)) (refused NoSettings (length frame))
before_settings Tick frame = refused NoSettings (length frame)
before_settings PolicyText frame = refused NoSettings (length frame)
before_settings Settings frame = cond (nat_lt 64 (slice_index frame 1)) (refused TooManyPeers (length frame)) (whole (settings_at frame) (length frame))

-- the peer that a frame names in its second byte is one of the settings
abbrev pub of_peer : Exchange → List ℕ → Happening → Outcome Happening
of_peer x frame h = cond (nat_lt (slice_index frame 1) (length x.peers)) (whole h (length frame)) (unreadable UnknownPeer)

-- under settings: all but settings is taken
abbrev pub under_settings : Exchange → Kind → List ℕ → Outcome Happening
under_settings x Message frame = of_peer x frame (message (slice_index frame 1) (drop 4 frame))
under_settings x Session frame = with_state frame (of_peer x frame (down (slice_index frame 1))) (of_peer x frame (up (slice_index frame 1)))
under_settings x Tick frame = whole tick (length frame)
under_settings x PolicyText frame = whole (policy_text (drop 5 frame)) (length frame)
under_settings x Settings frame = refused SettingsAgain (length frame)

-- what bytes begin with, before settings
abbrev pub first : List ℕ → Outcome Exchange
first bytes = outcome before_settings NoSettings (begins bytes)

-- what bytes begin with, under settings
abbrev pub next : Exchange → List ℕ → Outcome Happening
next x bytes = outcome (under_settings x) TextTooLong (begins bytes)

-- what an event of the code says
abbrev pub happening : Event → Happening
happening (event.Message p b) = message p b.now
happening (event.Up p) = up p
happening (event.Down p) = down p
happening event.Tick = tick
happening (event.PolicyText t) = policy_text t.now

-- what a reading of the code says
abbrev pub unread : {X : Type 0} → Unread → Outcome X
unread (unread_as.Refused r n) = refused r n
unread unread_as.More = more
unread (unread_as.Unreadable d) = unreadable d

abbrev pub meant : {T X : Type 0} → (T → X) → Result (Whole T) Unread → Outcome X
meant f (Ok w) = whole (f w.content) w.size
meant f (Err u) = unread u
