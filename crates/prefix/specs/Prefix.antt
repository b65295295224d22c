-- Prefixes: which addresses one stands for, when one holds another, and their numbers. Assumes nothing.
use Rattle.std.specs.Prelude.{ℕ, zero, suc, ◌+◌, ◌-◌, ◌*◌, ◌/◌, ◌%◌, ◌^◌, Bool, cond, ◌&&◌, ◌||◌, ◌==◌, count_ones, nat_le, nat_lt}

-- the addresses whose first `length` bits are those of `address`
pub record Prefix : Type 0 where
  pub address : ℕ
  pub length : ℕ

-- an address of 32 bits and a length of 0 to 24; the bits of the address behind the length are 0
abbrev pub is_prefix : ℕ → ℕ → Bool
is_prefix address length = nat_lt address (2 ^ 32) && (nat_le length 24 && address % 2 ^ (32 - length) == 0)

-- whether that address is one of p: it begins with the bits of p
abbrev pub holds : Prefix → ℕ → Bool
holds p address = address / 2 ^ (32 - p.length) == p.address / 2 ^ (32 - p.length)

-- one address and one length
abbrev pub same : Prefix → Prefix → Bool
same p q = p.address == q.address && p.length == q.length

-- q holds p: q is no longer, and both begin with the bits of q
abbrev pub within : Prefix → Prefix → Bool
within p q = nat_le q.length p.length && p.address / 2 ^ (32 - q.length) == q.address / 2 ^ (32 - q.length)

-- p comes before q: by address and, at one address, by length
abbrev pub before : Prefix → Prefix → Bool
before p q = nat_lt p.address q.address || (p.address == q.address && nat_lt p.length q.length)

-- how many prefixes there are
abbrev pub count : ℕ
count = 33554431

-- the place of a prefix in the order of `before`, from 0. Before it come the `length` prefixes that hold it and, for each bit of it that is 1 and weighs w in the first 24 bits of the address,
-- the 2 * w - 1 prefixes that begin as it does and have a 0 there
abbrev pub number : Prefix → ℕ
number p = 2 * (p.address / 256) + p.length - count_ones (p.address / 256)

-- the prefix that comes n places behind the one of that address and 24 - k bits: at 0 that one itself, then the 2 ^ k - 1 that go on with a 0, then those that go on with a 1
unfoldable pub descend : ℕ → ℕ → ℕ → Prefix
descend zero address n = record { address = address; length = 24 }
descend (suc k) address n =
    cond (n == 0) (record { address = address; length = 24 - suc k })
    (cond (nat_lt n (2 ^ suc k)) (descend k address (n - 1)) (descend k (address + 2 ^ (k + 8)) (n - 2 ^ suc k)))

-- the prefix of a number below `count`
abbrev pub prefix_of : ℕ → Prefix
prefix_of n = descend 24 0 n
