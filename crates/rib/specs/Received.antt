-- The Adj-RIB-In: what each peer last announced of each prefix. Assumes nothing.
use Rattle.std.specs.Prelude.{◌≡◌, ℕ, zero, suc, ◌+◌, ◌<◌, ◌≤◌, Bool, true, false, cond, ◌&&◌, Some, None, Option, ◌==◌}
use Rattle.route.specs.Route.{Route}

-- by the peer's number and the prefix's number
abbrev pub Received : Type 0
Received = ℕ → ℕ → Option Route

-- how many peers and how many routes there can be
abbrev pub most_peers : ℕ
most_peers = 64

abbrev pub capacity : ℕ
capacity = 16384

-- what peer i announced of prefix p is now x
abbrev pub updated : ℕ → ℕ → Option Route → Received → Received
updated i p x f j q = cond (j == i && q == p) x (f j q)

-- peer i has announced nothing
abbrev pub cleared : ℕ → Received → Received
cleared i f j q = cond (j == i) None (f j q)

-- what counts where some peers' announcements don't
abbrev pub heard : (ℕ → Bool) → Received → Received
heard silent f i p = cond (silent i) None (f i p)

abbrev pub is_route : Option Route → Bool
is_route None = false
is_route (Some r) = true

-- how many of the prefixes below m are so
unfoldable pub count_of : ℕ → (ℕ → Bool) → ℕ
count_of zero f = 0
count_of (suc m) f = cond (f m) 1 0 + count_of m f

-- how many routes of n peers, of m prefixes, are kept
unfoldable pub stored : ℕ → ℕ → Received → ℕ
stored zero m f = 0
stored (suc n) m f = count_of m (λ p. is_route (f n p)) + stored n m f

-- of the peers from m on and below n none has announced the prefix
pub record Silent (f : Received) (p m n : ℕ) : Type 0 where
  pub none : (i : ℕ) → m ≤ i → i < n → f i p ≡ None

-- nobody has announced a prefix from number a on and below b
pub record Unannounced (f : Received) (a b : ℕ) : Type 0 where
  pub none : (i p : ℕ) → a ≤ p → p < b → f i p ≡ None

-- somebody has announced the prefix
pub record Announced (f : Received) (p : ℕ) : Type 0 where
  pub peer : ℕ
  pub has_route : is_route (f peer p) ≡ true

-- one and the other are the same everywhere
abbrev pub Same : Received → Received → Type 0
Same f g = (j q : ℕ) → f j q ≡ g j q
