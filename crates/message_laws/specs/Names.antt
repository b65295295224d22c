-- Which prefixes a part of an UPDATE names, also where the message has a fault. Assumes nothing.
use Rattle.std.specs.Prelude.{◌≡◌, ℕ, ◌<◌, true, List, [], length, get_or, slice_index_or}
use Rattle.prefix.specs.Prefix.{Prefix}
use Rattle.wire.specs.Nlri.{prefix_size, holds_prefix, prefix_of, named}
use Rattle.wire.specs.Pieces.{pieces}

-- the piece at a place of the part is a prefix, and it is p
pub record HeldAt (part : List ℕ) (p : Prefix) (i : ℕ) : Type 0 where
  pub within : i < length (pieces prefix_size part)
  pub one : holds_prefix (slice_index_or (pieces prefix_size part) i []) ≡ true
  pub is : prefix_of (slice_index_or (pieces prefix_size part) i []) ≡ p

-- p stands at a place of the row of prefixes that the part names
pub record NamedAt (part : List ℕ) (p : Prefix) (k : ℕ) : Type 0 where
  pub within : k < length (named part)
  pub is : get_or (named part) k p ≡ p

-- the part names just the prefixes that it holds
pub record Names : Type 0 where
  pub all : (part : List ℕ) (p : Prefix) (i : ℕ) → HeldAt part p i → (k : ℕ) × NamedAt part p k
  pub only : (part : List ℕ) (p : Prefix) (k : ℕ) → NamedAt part p k → (i : ℕ) × HeldAt part p i
