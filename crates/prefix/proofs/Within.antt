-- What it says that two prefixes are the same, and that one is within another. Assumes nothing.
use Rattle.std.proofs.Common.{◌≡◌, ℕ, ◌+◌, ◌-◌, ◌*◌, ◌/◌, ◌%◌, ◌^◌, ◌<◌, ◌≤◌, true, sym, refl, ap, ◌∙◌, ⊎_elim, one-mul, arith}
use native.Mathlib.Nat.{add-mul-div_right}
use Rattle.std.proofs.lemmas.Nat.{pow_below, pow_pos, shr-shr, shr_split, div-mul-add}
use Rattle.std.proofs.lemmas.Bool.{and_from, cases_lt, eqb-true, eq-eqb, le-leb}
use Rattle.std.proofs.lemmas.Bool.Decides.{nat_tests}
use Rattle.prefix.specs.Laws.{Equal, Contained, Reflexive, Transitive, Whole}
use Rattle.prefix.specs.Prefix.{is_prefix}

pub equal : Equal
equal p q = (λ h. (let at : p.address ≡ q.address = grind (arith, nat_tests) in let long : p.length ≡ q.length = grind (arith, nat_tests) in λ i. record { address = at i; length = long i }), λ e. grind (arith, nat_tests))

-- numbers that are one behind j bits are one behind more
coarser : (x y i j : ℕ) → j ≤ i → x / 2 ^ j ≡ y / 2 ^ j → x / 2 ^ i ≡ y / 2 ^ i
coarser x y i j h e =
    let f : j + (i - j) ≡ i = omega arith in
    ap (λ k. x / 2 ^ k) (sym f) ∙ sym (shr-shr x j (i - j)) ∙ ap (λ n. n / 2 ^ (i - j)) e ∙ shr-shr y j (i - j) ∙ ap (λ k. y / 2 ^ k) f

pub reflexive : Reflexive
reflexive p = grind (arith, nat_tests)

pub transitive : Transitive
transitive p q r pq qr =
    let near : p.address / 2 ^ (32 - q.length) ≡ q.address / 2 ^ (32 - q.length) = grind (arith, nat_tests) in
    let on : q.address / 2 ^ (32 - r.length) ≡ r.address / 2 ^ (32 - r.length) = grind (arith, nat_tests) in
    let longer : r.length ≤ q.length = grind (arith, nat_tests) in
    let far : p.address / 2 ^ (32 - r.length) ≡ q.address / 2 ^ (32 - r.length) = coarser p.address q.address (32 - r.length) (32 - q.length) (omega arith) near in
    grind (arith, nat_tests)

pub whole : Whole
whole p h = grind (arith, nat_tests)

-- a prefix that is shorter than m bits has a second address behind its first m bits
behind : (a l m : ℕ) → is_prefix a l ≡ true → l < m → m ≤ 24 → (a + 2 ^ (32 - m)) / 2 ^ (32 - l) ≡ a / 2 ^ (32 - l)
behind a l m h less most =
    let t = a / 2 ^ (32 - l) in
    let none : a % 2 ^ (32 - l) ≡ 0 = grind (arith, nat_tests) in
    let first : a ≡ t * 2 ^ (32 - l) = omega (arith, shr_split a (32 - l)) in
    ap (λ x. (x + 2 ^ (32 - m)) / 2 ^ (32 - l)) first ∙ div-mul-add t (2 ^ (32 - l)) (2 ^ (32 - m)) (pow_below (32 - m) (32 - l) (omega arith))

-- and its bits up to there are the next
another : (a k : ℕ) → (a + 2 ^ k) / 2 ^ k ≡ a / 2 ^ k + 1
another a k = ap (λ x. (a + x) / 2 ^ k) (sym (one-mul (2 ^ k))) ∙ add-mul-div_right a 1 (pow_pos k)

pub contained : Contained
contained p q hp hq = (
  λ h x m.
      let near : p.address / 2 ^ (32 - q.length) ≡ q.address / 2 ^ (32 - q.length) = grind (arith, nat_tests) in
      let same : x / 2 ^ (32 - p.length) ≡ p.address / 2 ^ (32 - p.length) = eqb-true _ _ m in
      let shorter : q.length ≤ p.length = grind (arith, nat_tests) in
      eq-eqb _ _ (coarser x p.address (32 - q.length) (32 - p.length) (omega arith) same ∙ near),
  λ all.
      let first = all p.address (eq-eqb _ _ refl) in
      ⊎_elim
      (λ less.
      let short : q.length ≤ 24 = grind (arith, nat_tests) in
      let next = all (p.address + 2 ^ (32 - q.length)) (eq-eqb _ _ (behind p.address p.length q.length hp less short)) in
      absurd (omega (arith, another p.address (32 - q.length), eqb-true _ _ first, eqb-true _ _ next)))
      (λ longer. and_from _ _ (le-leb q.length p.length longer) first)
      (cases_lt p.length q.length),
)
