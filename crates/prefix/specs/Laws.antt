-- The laws of prefixes and of their numbers. Assumes nothing.
use Rattle.std.specs.Prelude.{◌≡◌, ℕ, ◌<◌, true, Decides, nat_lt}
use Rattle.prefix.specs.Prefix.{Prefix, is_prefix, holds, same, within, before, count, number, prefix_of}

-- `same` tells whether two are equal
abbrev pub Equal : Type 0
Equal = (p q : Prefix) → Decides (same p q) (p ≡ q)

-- of two prefixes the one that comes before has the smaller number
abbrev pub Rising : Type 0
Rising = (p q : Prefix) → is_prefix p.address p.length ≡ true → is_prefix q.address q.length ≡ true → before p q ≡ nat_lt (number p) (number q)

-- no two prefixes have one number
abbrev pub Injective : Type 0
Injective = (p q : Prefix) → is_prefix p.address p.length ≡ true → is_prefix q.address q.length ≡ true → number p ≡ number q → p ≡ q

-- a number is below how many there are
abbrev pub Bounded : Type 0
Bounded = (p : Prefix) → is_prefix p.address p.length ≡ true → number p < count

-- each number below that is one of a prefix
abbrev pub Onto : Type 0
Onto = (n : ℕ) → n < count → (is_prefix (prefix_of n).address (prefix_of n).length ≡ true) × (number (prefix_of n) ≡ n)

-- the prefix of a prefix's number is that prefix
abbrev pub Inverse : Type 0
Inverse = (p : Prefix) → is_prefix p.address p.length ≡ true → prefix_of (number p) ≡ p

-- a prefix is within another exactly if each of its addresses is one of the other's
abbrev pub Contained : Type 0
Contained =
    (p q : Prefix) → is_prefix p.address p.length ≡ true → is_prefix q.address q.length ≡ true
    → (within p q ≡ true → (x : ℕ) → holds p x ≡ true → holds q x ≡ true) × (((x : ℕ) → holds p x ≡ true → holds q x ≡ true) → within p q ≡ true)

-- each prefix is within itself
abbrev pub Reflexive : Type 0
Reflexive = (p : Prefix) → within p p ≡ true

-- what is within a prefix is within all that hold that prefix
abbrev pub Transitive : Type 0
Transitive = (p q r : Prefix) → within p q ≡ true → within q r ≡ true → within p r ≡ true

-- each prefix is within 0.0.0.0/0
abbrev pub Whole : Type 0
Whole = (p : Prefix) → is_prefix p.address p.length ≡ true → within p (record { address = 0; length = 0 }) ≡ true
