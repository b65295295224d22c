-- Going down from a prefix to the one of a number. Assumes nothing.
use Rattle.std.proofs.Common.{◌≡◌, ℕ, zero, suc, ◌+◌, ◌-◌, ◌*◌, ◌/◌, ◌^◌, ◌<◌, ◌≤◌, Bool, true, false, cond, eqb, ltb, leb, sym, refl, ap, ◌∙◌, subst, ⊎_elim, add-zero, mul-le-mul_right, mul_assoc, add-mul, pow-suc, arith}
use Rattle.std.proofs.lemmas.Nat.{pow-add, pow_pos, shl-shr, div_below}
use Rattle.std.proofs.lemmas.Bool.{cases_Bool, cond_both, cond-true, cond-false, eqb-true, eqb-false, eq-eqb, ne_eqb, leb-true, leb-false, ltb-true, ltb-false, le-ltb, lt-ltb}
use Rattle.prefix.specs.Laws.{Onto, Inverse}
use Rattle.prefix.specs.Prefix.{Prefix, is_prefix, number, descend, prefix_of}
use Rattle.prefix.specs.Steps.{Descends, Ends}
use Rattle.prefix.proofs.Halves.{halves, twice, halves_one}
use Rattle.prefix.proofs.Order.{Bits, bits_of, of_bits, number_is, bounded, injective}

-- the last address of a prefix is one
room : (a l t : ℕ) → Bits a l t → a + 2 ^ (24 - l) * 256 ≤ 2 ^ 32
room a l t b =
    let P = 2 ^ (24 - l) in
    let all : 2 ^ l * P ≡ 2 ^ 24 = sym (pow-add 2 l (24 - l)) ∙ (let e : l + (24 - l) ≡ 24 = omega arith in ap (λ k. 2 ^ k) e) in
    let few : t < 2 ^ l = subst (λ x. x < 2 ^ l) (shl-shr t (24 - l)) (div_below (t * P) P (2 ^ l) (pow_pos (24 - l)) (omega arith)) in
    omega (arith, mul-le-mul_right P few, add-mul t 1 P)

-- the powers that a bit at the length l goes by, in terms of the last
next_power : (l : ℕ) → l < 24 → (2 ^ (24 - l) ≡ 2 ^ (23 - l) * 2) × (2 ^ (31 - l) ≡ 2 ^ (23 - l) * 256) × (2 ^ (24 - (l + 1)) ≡ 2 ^ (23 - l))
next_power l h =
    let one : 24 - l ≡ 23 - l + 1 = omega arith in
    let eight : 31 - l ≡ 23 - l + 8 = omega arith in
    let none : 24 - (l + 1) ≡ 23 - l = omega arith in
    (ap (λ j. 2 ^ j) one ∙ pow-add 2 (23 - l) 1, ap (λ j. 2 ^ j) eight ∙ pow-add 2 (23 - l) 8, ap (λ j. 2 ^ j) none)

module _ (a l t : ℕ) (b : Bits a l t) (more : l < 24) where
  -- the address in halves of the prefix
  halved : a ≡ 2 * t * 2 ^ (23 - l) * 256
  halved =
      let P = 2 ^ (23 - l) in
      b.made ∙ ap (λ x. t * x * 256) (next_power l more).0 ∙ omega (arith, mul_assoc t P 2, mul_assoc 2 t P)

  to_zero : Bits a (l + 1) (2 * t)
  to_zero = record { fits = b.fits; short = omega arith; made = halved ∙ ap (λ x. 2 * t * x * 256) (sym (next_power l more).2) }

  to_one : Bits (a + 2 ^ (31 - l)) (l + 1) (2 * t + 1)
  to_one =
      let P = 2 ^ (23 - l) in
      let e = next_power l more in
      record {
        fits = omega (arith, room a l t b, e.0, e.1, pow_pos (23 - l));
        short = omega arith;
        made = omega (arith, halved, e.1, add-mul (2 * t) 1 P, ap (λ x. (2 * t + 1) * x * 256) e.2);
      }

  by_zero : number (record { address = a; length = l + 1 }) ≡ number (record { address = a; length = l }) + 1
  by_zero = omega (arith, number_is a l b.fits, number_is a (l + 1) b.fits)

  by_one : number (record { address = a + 2 ^ (31 - l); length = l + 1 }) ≡ number (record { address = a; length = l }) + 2 ^ (24 - l)
  by_one =
      let P = 2 ^ (23 - l) in
      let e = next_power l more in
      let high : a / 256 ≡ 2 * t * P = omega (arith, halved) in
      let higher : (a + 2 ^ (31 - l)) / 256 ≡ (2 * t + 1) * P = omega (arith, halved, e.1, add-mul (2 * t) 1 P) in
      let were = number_is a l b.fits in
      let are = number_is (a + 2 ^ (31 - l)) (l + 1) to_one.fits in
      omega (arith, ap (halves 24) high, ap (halves 24) higher, halves_one (23 - l) 24 t (omega arith), e.0, pow-suc 2 (23 - l))

-- one step down, by the length
descend_next : (k l a n : ℕ) → l + suc k ≡ 24 → descend (suc k) a n ≡ cond (eqb n 0) (record { address = a; length = l }) (cond (ltb n (2 ^ suc k)) (descend k a (n - 1)) (descend k (a + 2 ^ (31 - l)) (n - 2 ^ suc k)))
unfolding descend
descend_next k l a n e =
    let long : 24 - suc k ≡ l = omega arith in
    let place : k + 8 ≡ 31 - l = omega arith in
    λ i. cond (eqb n 0) (record { address = a; length = long i }) (cond (ltb n (2 ^ suc k)) (descend k a (n - 1)) (descend k (a + 2 ^ place i) (n - 2 ^ suc k)))

chosen : (k a n size bit : ℕ) (one : Bool) → one ≡ leb size n → cond (ltb n size) (descend k a (n - 1)) (descend k (a + bit) (n - size)) ≡ descend k (a + cond one bit 0) (n - cond one size 1)
chosen k a n size bit true o = cond-false (ltb n size) _ _ (le-ltb n size (leb-true size n (sym o)))
chosen k a n size bit false o = cond-true (ltb n size) _ _ (lt-ltb n size (leb-false size n (sym o))) ∙ ap (λ x. descend k x (n - 1)) (sym (add-zero a))

pub ends : Ends
unfolding descend
ends a n = refl

pub descends : Descends
descends l a n h =
    let P = 2 ^ (24 - l) in
    let k = 24 - (l + 1) in
    let e : 24 - l ≡ suc k = omega arith in
    let down : descend (24 - l) a n ≡ cond (eqb n 0) (record { address = a; length = l }) (cond (ltb n P) (descend k a (n - 1)) (descend k (a + 2 ^ (31 - l)) (n - P))) =
    ap (λ j. descend j a n) e ∙ descend_next k l a n (omega arith)
    ∙ (λ i. cond (eqb n 0) (record { address = a; length = l }) (cond (ltb n (2 ^ sym e i)) (descend k a (n - 1)) (descend k (a + 2 ^ (31 - l)) (n - 2 ^ sym e i)))) in
    (λ z. down ∙ cond-true (eqb n 0) _ _ (eq-eqb n 0 z), λ some one o. down ∙ cond-false (eqb n 0) _ _ (ne_eqb n 0 (λ z. omega arith)) ∙ chosen k a n P (2 ^ (31 - l)) one o)

-- a prefix that is longer by a 0 or by a 1
pub longer : (a l bit : ℕ) (one : Bool) → is_prefix a l ≡ true → l < 24 → bit ≡ cond one (2 ^ (31 - l)) 0 → (a + bit < 2 ^ 32) × (is_prefix (a + bit) (l + 1) ≡ true)
longer a l bit one h more e =
    let t = a / 2 ^ (32 - l) in
    let b = bits_of a l h in
    let next : (s : ℕ) → Bits (a + bit) (l + 1) s → (a + bit < 2 ^ 32) × (is_prefix (a + bit) (l + 1) ≡ true) = λ s d. (d.fits, of_bits (a + bit) (l + 1) s d) in
    ⊎_elim
    (λ o. let same : bit ≡ 2 ^ (31 - l) = grind arith in next (2 * t + 1) (subst (λ x. Bits (a + x) (l + 1) (2 * t + 1)) (sym same) (to_one a l t b more)))
    (λ o. let same : a + bit ≡ a = grind arith in next (2 * t) (subst (λ x. Bits x (l + 1) (2 * t)) (sym same) (to_zero a l t b more)))
    (cases_Bool one)

-- the prefix that comes n places behind one of length l and address a
abbrev Behind : ℕ → ℕ → ℕ → Prefix → Type 0
Behind a l n p = (is_prefix p.address p.length ≡ true) × (number p ≡ number (record { address = a; length = l }) + n)

descended : (k l a n : ℕ) → l + k ≡ 24 → is_prefix a l ≡ true → n + 1 < 2 ^ suc k → Behind a l n (descend k a n)
unfolding descend
descended zero l a n e h near =
    let all : l ≡ 24 = omega arith in (ap (λ x. is_prefix a x) (sym all) ∙ h, omega arith)
descended (suc k) l a n e h near =
    let t = a / 2 ^ (32 - l) in
    let b = bits_of a l h in
    let more : l < 24 = omega arith in
    let size : 2 ^ (24 - l) ≡ 2 ^ suc k = (let f : 24 - l ≡ suc k = omega arith in ap (λ j. 2 ^ j) f) in
    subst (Behind a l n) (sym (descend_next k l a n e)) (cond_both (eqb n 0) _ _ (Behind a l n) (λ z. (h, omega (arith, eqb-true n 0 z))) (λ z. cond_both (ltb n (2 ^ suc k)) _ _ (Behind a l n)
    (λ lt.
    let some : 0 < n = omega (arith, eqb-false n 0 z) in
    let there = descended k (l + 1) a (n - 1) (omega arith) (of_bits a (l + 1) (2 * t) (to_zero a l t b more)) (omega (arith, ltb-true n (2 ^ suc k) lt)) in
    (there.0, omega (arith, by_zero a l t b more)))
    (λ ge.
    let far : 2 ^ suc k ≤ n = ltb-false n (2 ^ suc k) ge in
    let there = descended k (l + 1) (a + 2 ^ (31 - l)) (n - 2 ^ suc k) (omega arith) (of_bits (a + 2 ^ (31 - l)) (l + 1) (2 * t + 1) (to_one a l t b more)) (omega (arith, pow-suc 2 (suc k))) in
    (there.0, omega (arith, by_one a l t b more)))))

pub onto : Onto
onto n h =
    let there = descended 24 0 0 n refl refl (omega arith) in (there.0, omega (arith, twice 24 0 (omega arith)))

pub inverse : Inverse
inverse p h =
    let there = onto (number p) (bounded p h) in injective (prefix_of (number p)) p there.0 h there.1
