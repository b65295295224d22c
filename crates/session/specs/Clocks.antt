-- What becomes of a session's clocks over a course of things that happen to it. Assumes nothing.
use Rattle.std.specs.Prelude.{◌≡◌, ℕ, ◌+◌, ◌<◌, ◌≤◌, Bool, true, false, cond, not, ◌&&◌, List, [], ◌∷◌, ◌++◌, ◌==◌}
use Rattle.session.specs.Session.{Session, down, is_down, is_established, is_silent, is_keepalive_due, ticked, heard_now, sent_now}

-- one thing that happens to a session: a second passes, a message comes, or the server sends one that is no KEEPALIVE of a tick
pub data Beat : Type 0 where
  Tick : Beat
  Hears : Beat
  Sends : Beat

-- a KEEPALIVE goes at the next tick: the session does not go down then, and it is due
abbrev pub sends_keepalive : Session → Bool
sends_keepalive s = not (is_silent (ticked s)) && is_keepalive_due (ticked s)

-- a tick as the server does it: a session whose time has run out goes down; else a KEEPALIVE that is due goes
abbrev pub after_tick : Session → Session
after_tick s = cond (is_silent (ticked s)) down (cond (is_keepalive_due (ticked s)) (sent_now (ticked s)) (ticked s))

abbrev pub after_beat : Session → Beat → Session
after_beat s Tick = after_tick s
after_beat s Hears = heard_now s
after_beat s Sends = sent_now s

-- after a course, the earliest first
unfoldable pub after : Session → List Beat → Session
after s [] = s
after s (b ∷ bs) = after (after_beat s b) bs

-- how many seconds pass in a course
unfoldable pub ticks : List Beat → ℕ
ticks [] = 0
ticks (Tick ∷ bs) = 1 + ticks bs
ticks (Hears ∷ bs) = ticks bs
ticks (Sends ∷ bs) = ticks bs

-- nothing comes in it
unfoldable pub hears_nothing : List Beat → Bool
hears_nothing [] = true
hears_nothing (Tick ∷ bs) = hears_nothing bs
hears_nothing (Hears ∷ bs) = false
hears_nothing (Sends ∷ bs) = hears_nothing bs

-- the server sends nothing in it but KEEPALIVEs of ticks
unfoldable pub sends_nothing : List Beat → Bool
sends_nothing [] = true
sends_nothing (Tick ∷ bs) = sends_nothing bs
sends_nothing (Hears ∷ bs) = sends_nothing bs
sends_nothing (Sends ∷ bs) = false

-- something comes at least every 89 seconds: no part of the course in which nothing comes has 90 ticks
pub record HearsInTime (bs : List Beat) : Type 0 where
  pub in_time : (before part behind : List Beat) → before ++ (part ++ behind) ≡ bs → hears_nothing part ≡ true → ticks part < 90

-- in a course from s a KEEPALIVE goes: there is a tick in it at which one does
pub record KeepaliveWithin (s : Session) (bs : List Beat) : Type 0 where
  pub before : List Beat
  pub behind : List Beat
  pub at_a_tick : before ++ (Tick ∷ behind) ≡ bs
  pub goes : sends_keepalive (after s before) ≡ true

pub record ClockLaws : Type 0 where
  -- a session that is not down, to which something just came, and on which something comes in time, stays as far up as it is
  pub kept_up : (s : Session) (bs : List Beat) → is_down s ≡ false → s.heard ≡ 0 → HearsInTime bs → (after s bs).phase ≡ s.phase
  -- one on which nothing comes is still up as long as less than 90 seconds have passed, and down from the 90th on
  pub up_before : (s : Session) (bs : List Beat) → is_down s ≡ false → s.heard ≡ 0 → hears_nothing bs ≡ true → ticks bs < 90 → (after s bs).phase ≡ s.phase
  pub silence : (s : Session) (bs : List Beat) → is_down s ≡ false → s.heard ≡ 0 → hears_nothing bs ≡ true → 90 ≤ ticks bs → after s bs ≡ down
  -- one that is down stays down
  pub stays_down : (s : Session) (bs : List Beat) → is_down s ≡ true → is_down (after s bs) ≡ true
  -- an established session has always sent something less than 30 seconds ago
  pub sent_lately : (s : Session) (bs : List Beat) → is_established s ≡ true → s.sent < 30 → (after s bs).sent < 30
  -- of any 30 ticks in a row in which nothing else is sent there is one at which a KEEPALIVE goes, unless the session went down
  pub keepalive : (s : Session) (before bs : List Beat) → is_established s ≡ true → s.sent < 30 → sends_nothing bs ≡ true → 30 ≤ ticks bs → is_down (after s (before ++ bs)) ≡ false → KeepaliveWithin (after s before) bs
  -- a KEEPALIVE goes at the 30th tick after something was sent, and at none before
  pub on_time : (s : Session) (bs : List Beat) → is_established s ≡ true → s.sent ≡ 0 → sends_nothing bs ≡ true → ticks bs < 30 → is_down (after s (bs ++ (Tick ∷ []))) ≡ false → sends_keepalive (after s bs) ≡ (ticks bs + 1 == 30)
