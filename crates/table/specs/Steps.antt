-- What the code of the table leans on. Assumes nothing.
use Rattle.std.specs.Prelude.{◌≡◌, ℕ, ◌+◌, List, length, Some, None, slice_index_or, slice_set}
use Rattle.prefix.specs.Prefix.{count}
use Rattle.rib.specs.Received.{Same, most_peers, stored, updated}
use Rattle.route.specs.Meant.{route_of}
use Rattle.std.specs.List.{insert, remove}
use Rattle.table.specs.Table.{Absent, Found, Rises, key_of, received_of}
use Rattle.table.specs.declared.entry.Entry.{Entry}

-- where the key of a peer and a prefix stands: what was announced, and what the row means with another route there, and without it
pub record FoundLaws (es : List Entry) (peer prefix i : ℕ) : Type 0 where
  pub at : Found es (key_of peer prefix) i
  pub is : (e : Entry) → e ≡ slice_index_or es i e → Some (route_of e.route) ≡ received_of es peer prefix
  pub set_rises : (e : Entry) → e.key ≡ key_of peer prefix → Rises (slice_set es i e)
  pub set : (e : Entry) → e.key ≡ key_of peer prefix → Same (received_of (slice_set es i e)) (updated peer prefix (Some (route_of e.route)) (received_of es))
  pub set_many : (e : Entry) → e.key ≡ key_of peer prefix → stored most_peers count (updated peer prefix (Some (route_of e.route)) (received_of es)) ≡ length es
  pub removed_rises : Rises (remove es i)
  pub removed : Same (received_of (remove es i)) (updated peer prefix None (received_of es))

-- where it would stand: nothing was announced, and what the row means with a route there
pub record AbsentLaws (es : List Entry) (peer prefix i : ℕ) : Type 0 where
  pub at : Absent es (key_of peer prefix) i
  pub none : None ≡ received_of es peer prefix
  pub same : Same (received_of es) (updated peer prefix None (received_of es))
  pub added_rises : (e : Entry) → e.key ≡ key_of peer prefix → Rises (insert es i e)
  pub added : (e : Entry) → e.key ≡ key_of peer prefix → Same (received_of (insert es i e)) (updated peer prefix (Some (route_of e.route)) (received_of es))
  pub added_many : (e : Entry) → e.key ≡ key_of peer prefix → stored most_peers count (updated peer prefix (Some (route_of e.route)) (received_of es)) ≡ length es + 1
