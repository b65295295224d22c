-- Prefixes and their numbers have one order. Assumes nothing.
use Rattle.std.proofs.Common.{◌≡◌, ℕ, ◌+◌, ◌-◌, ◌*◌, ◌/◌, ◌%◌, ◌^◌, ◌<◌, ◌≤◌, true, ◌&&◌, ◌||◌, eqb, ltb, sym, ap, ◌∙◌, ⊎_elim, mul_assoc, arith}
use native.Mathlib.Nat.{mul-mod_left}
use Rattle.std.proofs.lemmas.Nat.{pow-add, shr_split}
use Rattle.std.proofs.lemmas.Bool.{cases_order, cases_eq, cases_lt}
use Rattle.std.proofs.lemmas.Bool.Decides.{nat_tests}
use Rattle.prefix.specs.Laws.{Rising, Injective, Bounded}
use Rattle.prefix.specs.Prefix.{Prefix, is_prefix, number}
use Rattle.prefix.specs.Steps.{Numbered}
use Rattle.prefix.proofs.Halves.{halves, twice, halves_le, halves_lt}

-- what `isPrefix` says, with the bits of the prefix as a number
pub record Bits (address len bits : ℕ) : Type 0 where
  pub fits : address < 2 ^ 32
  pub short : len ≤ 24
  pub made : address ≡ bits * 2 ^ (24 - len) * 256

-- what stands before the bits behind a length
above : (l t : ℕ) → l ≤ 24 → t * 2 ^ (32 - l) ≡ t * 2 ^ (24 - l) * 256
above l t h =
    let e : 32 - l ≡ 24 - l + 8 = omega arith in ap (λ k. t * 2 ^ k) e ∙ ap (λ x. t * x) (pow-add 2 (24 - l) 8) ∙ sym (mul_assoc t (2 ^ (24 - l)) 256)

pub bits_of : (a l : ℕ) → is_prefix a l ≡ true → Bits a l (a / 2 ^ (32 - l))
bits_of a l h =
    let short : l ≤ 24 = grind (arith, nat_tests) in
    let fits : a < 2 ^ 32 = grind (arith, nat_tests) in
    let none : a % 2 ^ (32 - l) ≡ 0 = grind (arith, nat_tests) in
    record { fits = fits; short = short; made = omega (arith, shr_split a (32 - l), above l (a / 2 ^ (32 - l)) short) }

pub of_bits : (a l t : ℕ) → Bits a l t → is_prefix a l ≡ true
of_bits a l t b =
    let none : a % 2 ^ (32 - l) ≡ 0 = ap (λ x. x % 2 ^ (32 - l)) (b.made ∙ sym (above l t b.short)) ∙ mul-mod_left t (2 ^ (32 - l)) in
    grind (arith, nat_tests)

pub number_is : (a l : ℕ) → a < 2 ^ 32 → number (record { address = a; length = l }) ≡ halves 24 (a / 256) + l
number_is a l h = omega (arith, twice 24 (a / 256) (omega arith))

-- a prefix of no bits is at 0
some_bits : (a l t : ℕ) → Bits a l t → 0 < a → 0 < l
some_bits a l t b h =
    ⊎_elim (λ e. let all : t * 2 ^ (24 - l) * 256 ≡ t * 16777216 * 256 = ap (λ k. t * 2 ^ (24 - k) * 256) e in absurd (omega (arith, cases_lt 0 t))) (λ n. omega arith) (cases_eq l 0)

rises : (p q : Prefix) → is_prefix p.address p.length ≡ true → is_prefix q.address q.length ≡ true → p.address < q.address → number p < number q
rises p q hp hq lt =
    let t = q.address / 2 ^ (32 - q.length) in
    let x = p.address / 256 in
    let bp = bits_of p.address p.length hp in
    let bq = bits_of q.address q.length hq in
    let some = some_bits q.address q.length t bq (omega arith) in
    let top : q.address / 256 ≡ t * 2 ^ (24 - q.length) = omega arith in
    let less = halves_lt (24 - q.length) 24 x t (omega arith) (omega arith) in
    let np = number_is p.address p.length bp.fits in
    let nq = number_is q.address q.length bq.fits in
    omega (arith, ap (halves 24) top)

-- at one address the number rises with the length
level : (p q : Prefix) → is_prefix p.address p.length ≡ true → is_prefix q.address q.length ≡ true → p.address ≡ q.address → number p + q.length ≡ number q + p.length
level p q hp hq e =
    let np = number_is p.address p.length (bits_of p.address p.length hp).fits in
    let nq = number_is q.address q.length (bits_of q.address q.length hq).fits in
    omega (arith, ap (λ a. halves 24 (a / 256)) e)

pub bounded : Bounded
unfolding halves
bounded p h =
    let b = bits_of p.address p.length h in
    omega (arith, number_is p.address p.length b.fits, halves_le 24 (p.address / 256) 16777215 (omega arith))

pub numbered : Numbered
numbered a l h =
    let b = bits_of a l h in (omega (arith, twice 24 (a / 256) (omega arith)), bounded (record { address = a; length = l }) h)

lexical : (a b l m u v : ℕ) → (a < b → u < v) → (b < a → v < u) → (a ≡ b → u + m ≡ v + l) → (ltb a b || (eqb a b && ltb l m)) ≡ ltb u v
lexical a b l m u v under over at =
    ⊎_elim (λ e. let k = at e in grind (arith, nat_tests)) (⊎_elim (λ h. let k = under h in grind (arith, nat_tests)) (λ h. let k = over h in grind (arith, nat_tests))) (cases_order a b)

pub rising : Rising
rising p q hp hq = lexical p.address q.address p.length q.length (number p) (number q) (rises p q hp hq) (rises q p hq hp) (level p q hp hq)

pub injective : Injective
injective p q hp hq e =
    let at : p.address ≡ q.address = ⊎_elim (λ h. h) (⊎_elim (λ h. omega (arith, rises p q hp hq h)) (λ h. omega (arith, rises q p hq hp h))) (cases_order p.address q.address) in
    let long : p.length ≡ q.length = omega (arith, level p q hp hq at) in
    λ i. record { address = at i; length = long i }
