-- The routes of all peers in one row, each with its key. Assumes nothing.
use Rattle.std.specs.Prelude.{◌≡◌, ℕ, ◌+◌, ◌*◌, ◌%◌, ◌<◌, ◌≤◌, cond, List, [], ◌∷◌, length, Some, None, Option, ◌==◌, nat_lt, not, slice_index_or}
use Rattle.rib.specs.Received.{Received, most_peers}
use Rattle.route.specs.Meant.{route_of}
use Rattle.route.specs.Route.{Route}
use Rattle.std.specs.List.{AllPairs, AllWithin, HoldsAt, filter}
use Rattle.table.specs.declared.entry.Entry.{Entry}

-- the key of what a peer announced of a prefix: by the prefix's number and, at one prefix, by peer
abbrev pub key_of : ℕ → ℕ → ℕ
key_of peer prefix = prefix * 256 + peer

-- the route of the key
unfoldable pub route_at : ℕ → List Entry → Option Route
route_at key [] = None
route_at key (e ∷ es) = cond (e.key == key) (Some (route_of e.route)) (route_at key es)

-- what each peer last announced, by these entries
unfoldable pub received_of : List Entry → Received
received_of es peer prefix = cond (nat_lt peer most_peers) (route_at (key_of peer prefix) es) None

-- each key is smaller than all behind it, so none stands twice
abbrev pub Rises : List Entry → Type 0
Rises es = AllPairs (λ x y. x.key < y.key) es

-- i is the place of the first key that is not below `key`
pub record Placed (es : List Entry) (key i : ℕ) : Type 0 where
  pub within : i ≤ length es
  pub before : AllWithin (λ e. e.key < key) es 0 i
  pub behind : AllWithin (λ e. key ≤ e.key) es i (length es)

-- the key stands at i
pub record Found (es : List Entry) (key i : ℕ) : Type 0 where
  pub within : i < length es
  pub at : HoldsAt (λ e. e.key ≡ key) es i

-- the key stands nowhere, and would stand at i
pub record Absent (es : List Entry) (key i : ℕ) : Type 0 where
  pub within : i ≤ length es
  pub before : AllWithin (λ e. e.key < key) es 0 i
  pub behind : AllWithin (λ e. key < e.key) es i (length es)

-- no key stands from a on and below b
pub record NoneBetween (es : List Entry) (a b : ℕ) : Type 0 where
  pub none : (j : ℕ) (d : Entry) → j < length es → a ≤ (slice_index_or es j d).key → (slice_index_or es j d).key < b → ⊥

-- e is the entry of the lowest key from a on, and that is below b
pub record FirstBetween (es : List Entry) (a b : ℕ) (e : Entry) : Type 0 where
  pub place : ℕ
  pub within : place < length es
  pub is : e ≡ slice_index_or es place e
  pub low : a ≤ e.key
  pub high : e.key < b
  pub lower : NoneBetween es a e.key

-- the entries that are not of the peer
abbrev pub others : ℕ → List Entry → List Entry
others peer es = filter (λ e. not (e.key % 256 == peer)) es
