-- The session of one peer, and what each thing that happens makes of it. Assumes nothing.
use Rattle.std.specs.Prelude.{ℕ, ◌+◌, min, Bool, true, false, cond, not, ◌&&◌, nat_le}
use Rattle.session.specs.declared.Phase.{Phase}
use Rattle.session.specs.declared.Phase.TheVariants.{Down, OpenSent, Established}

-- seconds without a message that came, after which a session goes down
abbrev pub hold_time : ℕ
hold_time = 90

-- seconds without a message that was sent, after which a KEEPALIVE goes
abbrev pub keepalive_time : ℕ
keepalive_time = 30

-- how far it has come up; seconds since a message came or, if none did, since the connection came up; seconds since a message was sent
pub record Session : Type 0 where
  pub phase : Phase
  pub heard : ℕ
  pub sent : ℕ

-- there is no connection: so it is at the start, and whenever it goes down
abbrev pub down : Session
down = record { phase = Down; heard = 0; sent = 0 }

abbrev pub is_down_in : Phase → Bool
is_down_in Down = true
is_down_in OpenSent = false
is_down_in Established = false

abbrev pub is_down : Session → Bool
is_down s = is_down_in s.phase

abbrev pub is_established_in : Phase → Bool
is_established_in Down = false
is_established_in OpenSent = false
is_established_in Established = true

abbrev pub is_established : Session → Bool
is_established s = is_established_in s.phase

abbrev pub is_open_sent_in : Phase → Bool
is_open_sent_in Down = false
is_open_sent_in OpenSent = true
is_open_sent_in Established = false

-- the connection comes up, and the server sends its OPEN: both clocks begin; one that is not down stays as it is
abbrev pub opened : Session → Session
opened s = cond (is_down s) (record { phase = OpenSent; heard = 0; sent = 0 }) s

-- the peer's OPEN came and is right, and the server sends a KEEPALIVE at once: both clocks begin anew; one on which no OPEN is awaited stays as it is
abbrev pub established : Session → Session
established s = cond (is_open_sent_in s.phase) (record { phase = Established; heard = 0; sent = 0 }) s

-- a message came
abbrev pub heard_now : Session → Session
heard_now s = record { phase = s.phase; heard = 0; sent = s.sent }

-- a message was sent
abbrev pub sent_now : Session → Session
sent_now s = record { phase = s.phase; heard = s.heard; sent = 0 }

-- what a clock shows a second later; it stops at the hold time, since nobody asks for more
abbrev pub later : ℕ → ℕ
later seconds = min (seconds + 1) hold_time

-- a second passed; one that is down stays as it is
abbrev pub ticked : Session → Session
ticked s = cond (is_down s) s (record { phase = s.phase; heard = later s.heard; sent = later s.sent })

-- its time has run out: it is not down, and nothing came for the hold time
abbrev pub is_silent : Session → Bool
is_silent s = not (is_down s) && nat_le hold_time s.heard

-- it is established, and nothing was sent for the keepalive time
abbrev pub is_keepalive_due : Session → Bool
is_keepalive_due s = is_established s && nat_le keepalive_time s.sent
