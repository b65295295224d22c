-- A part of an UPDATE names just the prefixes that it holds. Assumes nothing.
use Rattle.std.proofs.Common.{◌≡◌, ℕ, zero, suc, ◌<◌, Bool, true, false, cond, List, [], ◌∷◌, length, get_or, sym, refl, subst, arith}
use Rattle.message_laws.specs.Names.{Names}
use Rattle.prefix.specs.Prefix.{Prefix}
use Rattle.wire.specs.Nlri.{prefix_size, holds_prefix, prefix_of, prefixes_of, named}
use Rattle.wire.specs.Pieces.{pieces}

-- p stands at a place of a row of prefixes
abbrev In : Prefix → List Prefix → Type 0
In p ps = (k : ℕ) × (k < length ps) × (get_or ps k p ≡ p)

abbrev Held : Prefix → List (List ℕ) → Type 0
Held p xs = (i : ℕ) × (i < length xs) × (holds_prefix (get_or xs i []) ≡ true) × (prefix_of (get_or xs i []) ≡ p)

-- what stands behind the first stands in the whole
later : (p q : Prefix) (ps : List Prefix) → In p ps → In p (q ∷ ps)
later p q ps s = (suc s.0, (omega (arith, s.1)), s.2)

held_later : (p : Prefix) (x : List ℕ) (xs : List (List ℕ)) → Held p xs → Held p (x ∷ xs)
held_later p x xs s = (suc s.0, (omega (arith, s.1)), s.2, s.3)

joins : (p : Prefix) (x : List ℕ) (ps : List Prefix) (b : Bool) → In p ps → In p (cond b (prefix_of x ∷ ps) ps)
joins p x ps true s = later p (prefix_of x) ps s
joins p x ps false s = s

all : (p : Prefix) (xs : List (List ℕ)) (i : ℕ) → i < length xs → holds_prefix (get_or xs i []) ≡ true → prefix_of (get_or xs i []) ≡ p → In p (prefixes_of xs)
unfolding prefixes_of
all p [] i h o e = absurd (omega arith)
all p (x ∷ xs) zero h o e = subst (λ b. In p (cond b (prefix_of x ∷ prefixes_of xs) (prefixes_of xs))) (sym o) (0, (omega arith), e)
all p (x ∷ xs) (suc i) h o e = joins p x (prefixes_of xs) (holds_prefix x) (all p xs i (omega arith) o e)

only : (p : Prefix) (xs : List (List ℕ)) (k : ℕ) → k < length (prefixes_of xs) → get_or (prefixes_of xs) k p ≡ p → Held p xs
unfolding prefixes_of
only p [] k h e = absurd (omega arith)
only p (x ∷ xs) k h e = by (holds_prefix x) refl k h e (only p xs)
  where
    by : (b : Bool) → holds_prefix x ≡ b → (k : ℕ) → k < length (cond b (prefix_of x ∷ prefixes_of xs) (prefixes_of xs)) → get_or (cond b (prefix_of x ∷ prefixes_of xs) (prefixes_of xs)) k p ≡ p → ((k : ℕ) → k < length (prefixes_of xs) → get_or (prefixes_of xs) k p ≡ p → Held p xs) → Held p (x ∷ xs)
    by true o zero h e more = (0, (omega arith), o, e)
    by true o (suc k) h e more = held_later p x xs (more k (omega arith) e)
    by false o k h e more = held_later p x xs (more k h e)

pub names : Names
unfolding named
names = record {
  all = λ part p i s. let f = all p (pieces prefix_size part) i s.within s.one s.is in (f.0, record { within = f.1; is = f.2 });
  only = λ part p k s. let f = only p (pieces prefix_size part) k s.within s.is in (f.0, record { within = f.1; one = f.2; is = f.3 });
}
