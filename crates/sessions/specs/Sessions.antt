-- The sessions of all peers. Assumes nothing.
use Rattle.std.specs.Prelude.{◌≡◌, ℕ, Bool, cond, List, slice_index_or}
use Rattle.model.specs.Model.{at}
use Rattle.session.specs.Meant.{session_of}
use Rattle.session.specs.Session.{Session, down, ticked, sent_now, is_silent}
use Rattle.session.specs.declared.Phase.TheVariants.{Down}
use Rattle.session.specs.declared.Session.{Session as Stored}
use Rattle.sessions.specs.declared.Sessions.{Sessions}

-- the session at a place of a row; behind its end all are down
unfoldable pub session_at : List Stored → ℕ → Session
session_at row i = session_of (slice_index_or row i (record { phase = Down; heard = 0; sent = 0 }))

-- the session of each peer
abbrev pub sessions_of : Sessions → ℕ → Session
sessions_of s = session_at s.row

-- the session of a peer became what a call made of it, and the others are as they were
pub record Changes {F : Type 0} (post : F → Stored → Stored → Type 0) (step : F) (peer : ℕ) (s t : Sessions) : Type 0 where
  pub before : Stored
  pub after : Stored
  pub was : session_of before ≡ sessions_of s peer
  pub called : post step before after
  pub is : (i : ℕ) → sessions_of t i ≡ at peer (session_of after) (sessions_of s) i

-- whose time runs out when a second passes
unfoldable pub silent_in : (ℕ → Session) → ℕ → Bool
silent_in sessions i = is_silent (ticked (sessions i))

-- the sessions a second later: those whose time ran out are down
unfoldable pub sessions_later : (ℕ → Session) → ℕ → Session
sessions_later sessions i = cond (silent_in sessions i) down (ticked (sessions i))

-- the clock of what was sent begins anew for each of a set
unfoldable pub sent_to : (ℕ → Bool) → (ℕ → Session) → ℕ → Session
sent_to set sessions i = cond (set i) (sent_now (sessions i)) (sessions i)
