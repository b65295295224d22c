-- What is told to peers, in which order, and what a peer then holds. Assumes nothing.
use Rattle.std.specs.Prelude.{ℕ, zero, suc, Bool, true, cond, ◌&&◌, ◌||◌, List, [], ◌∷◌, ◌++◌, None, Option, ◌==◌, nat_lt}
use Rattle.route.specs.Same.{same_option}
use Rattle.route.specs.Route.{Route}

-- a peer is told of a prefix, by its number, this route, or that there is none
pub record Update : Type 0 where
  pub peer : ℕ
  pub prefix : ℕ
  pub route : Option Route

-- what peers hold, by peer and prefix
abbrev pub Held : Type 0
Held = ℕ → ℕ → Option Route

-- a peer that holds one thing and should hold another is told
abbrev pub tell_if : ℕ → ℕ → Option Route → Option Route → List Update
tell_if j p old new = cond (same_option new old) [] (record { peer = j; prefix = p; route = new } ∷ [])

-- of the prefixes below m, in rising order
unfoldable pub row : ℕ → (ℕ → Option Route) → (ℕ → Option Route) → ℕ → List Update
row j old new zero = []
row j old new (suc m) = row j old new m ++ tell_if j m (old m) (new m)

-- the peers below n whose sessions are up, in rising order, of the prefixes below m
unfoldable pub updates : ℕ → (ℕ → Bool) → Held → Held → ℕ → List Update
updates m up old new zero = []
updates m up old new (suc n) = updates m up old new n ++ cond (up n) (row n (old n) (new n) m) []

-- what goes to peers: an update, or a new session, in which a peer begins with nothing
pub data Sent : Type 0 where
  Begins : (peer : ℕ) → Sent
  Tells : Update → Sent

unfoldable pub tells : List Update → List Sent
tells [] = []
tells (u ∷ us) = Tells u ∷ tells us

-- what a peer holds that does as it is told
abbrev pub follows : Sent → Held → Held
follows (Begins i) held j p = cond (j == i) None (held j p)
follows (Tells u) held j p = cond (j == u.peer && p == u.prefix) u.route (held j p)

unfoldable pub held_after : Held → List Sent → Held
held_after held [] = held
held_after held (s ∷ ss) = held_after (follows s held) ss

abbrev pub nothing : Held
nothing j p = None

-- one goes before another: to a lower peer, or to the same of a lower prefix
abbrev pub precedes : Update → Update → Bool
precedes a e = nat_lt a.peer e.peer || (a.peer == e.peer && nat_lt a.prefix e.prefix)

unfoldable pub precedes_all : Update → List Update → Bool
precedes_all u [] = true
precedes_all u (e ∷ es) = precedes u e && precedes_all u es

-- each goes before all behind it
unfoldable pub in_order : List Update → Bool
in_order [] = true
in_order (u ∷ us) = precedes_all u us && in_order us
