-- Where looking for a prefix in a list begins. Assumes nothing.
use Rattle.std.specs.Prelude.{◌≡◌, ℕ, ◌+◌, ◌-◌, ◌/◌, ◌^◌, ◌<◌, ◌≤◌, min, false, List, map, length, take, slice_index}
use Rattle.prefix.specs.Meant.{meant}
use Rattle.prefix.specs.Prefix.{Prefix}
use Rattle.prefix.specs.declared.Prefix.{Prefix as StoredPrefix}
use Rattle.policy.specs.Policy.{is_covered}

-- prefixes are in 1,024 buckets, by the first 10 bits of their address
abbrev pub bucket_of : ℕ → ℕ
bucket_of address = address / 2 ^ 22

-- the buckets of what is within q: from its first address to its last
abbrev pub first_bucket : Prefix → ℕ
first_bucket q = bucket_of q.address

abbrev pub last_bucket : Prefix → ℕ
last_bucket q = bucket_of (q.address + (2 ^ (32 - q.length) - 1))

-- no prefix is within one of the members before the start of its bucket
abbrev pub Starts : List ℕ → List StoredPrefix → Type 0
Starts starts members = (p : Prefix) → is_covered p (map meant (take (slice_index starts (bucket_of p.address)) members)) ≡ false

-- the starts of the buckets from `first` on and below `until` are now at most n, and the others are as they were
pub record Lowered (old new : List ℕ) (first until n : ℕ) : Type 0 where
  pub size : length new ≡ length old
  pub inside : (k : ℕ) → first ≤ k → k < until → slice_index new k ≡ min (slice_index old k) n
  pub before : (k : ℕ) → k < first → slice_index new k ≡ slice_index old k
  pub behind : (k : ℕ) → until ≤ k → slice_index new k ≡ slice_index old k
