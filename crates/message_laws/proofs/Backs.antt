-- Numbers, prefixes and pieces read back. Assumes nothing.
use Rattle.std.proofs.Common.{◌≡◌, ℕ, zero, suc, ◌+◌, ◌-◌, ◌*◌, ◌/◌, ◌%◌, ◌^◌, ◌<◌, ◌≤◌, true, false, not, ◌&&◌, ◌||◌, List, [], ◌∷◌, ◌++◌, length, take, drop, sym, refl, ap, ◌∙◌, arith, length-append}
use Rattle.message_laws.specs.RoundTrip.{Fit}
use Rattle.message_write.proofs.Sizes.{short, prefix_steps}
use Rattle.message_write.specs.Written.{numbers_bytes, prefix_bytes}
use Rattle.prefix.specs.Prefix.{Prefix, is_prefix}
use Rattle.std.proofs.lemmas.Nat.{div-add-mod', mod-pow-add, shr-shr}
use Rattle.std.proofs.lemmas.List.{take_all, drop_all, take_at, drop_at}
use Rattle.std.proofs.lemmas.Bool.{eq-eqb, cond-true}
use Rattle.std.proofs.lemmas.Bool.Decides.{nat_tests}
use Rattle.wire.proofs.Naming.{prefix_pieces}
use Rattle.wire.specs.Bytes.{u16_of, u32_of, bytes16, bytes32, numbers}
use Rattle.wire.specs.Nlri.{prefix_size, holds_prefix, prefix_of, prefixes_of, named, has_no_prefix}
use Rattle.wire.specs.Pieces.{pieces, overruns, some}
use Rattle.wire.specs.Steps.{PieceSteps}

pub u16_back : (n : ℕ) → n < 65536 → u16_of (bytes16 n) ≡ n
u16_back n h = omega arith

-- four bytes, each by the number above it
four : (n x y z a b c d : ℕ) → x * 256 + d ≡ n → y * 256 + c ≡ x → z * 256 + b ≡ y → a ≡ z → a * 16777216 + b * 65536 + c * 256 + d ≡ n
four n x y z a b c d e f g h = omega arith

pub u32_back : (n : ℕ) → n < 4294967296 → u32_of (bytes32 n) ≡ n
u32_back n h =
    let second : n / 65536 * 256 + n / 256 % 256 ≡ n / 256 = ap (λ q. q * 256 + n / 256 % 256) (sym (shr-shr n 8 8)) ∙ div-add-mod' (n / 256) 256 in
    let third : n / 16777216 * 256 + n / 65536 % 256 ≡ n / 65536 = ap (λ q. q * 256 + n / 65536 % 256) (sym (shr-shr n 16 8)) ∙ div-add-mod' (n / 65536) 256 in
    four n (n / 256) (n / 65536) (n / 16777216) (n / 16777216 % 256) (n / 65536 % 256) (n / 256 % 256) (n % 256) (div-add-mod' n 256) second third (omega arith)

pub numbers_back : (ns : List ℕ) → Fit ns → numbers (numbers_bytes ns) ≡ ns
unfolding numbers numbers_bytes
numbers_back [] h = refl
numbers_back (n ∷ ns) h = ap (λ x. x ∷ numbers (numbers_bytes ns)) (u32_back n (h 0)) ∙ ap (λ l. n ∷ l) (numbers_back ns (λ i. h (suc i)))

-- a row that is one piece
module _ (size : List ℕ → ℕ) (steps : PieceSteps size) (x : List ℕ) (h : 0 < length x) (e : size x ≡ length x) where
  pub one_piece : pieces size x ≡ x ∷ []
  one_piece = steps.first x h ∙ ap (λ p. p ∷ pieces size (drop (size x) x)) (take_all (size x) x (omega arith)) ∙ ap (λ r. x ∷ pieces size r) (drop_all (size x) x (omega arith)) ∙ ap (λ l. x ∷ l) steps.none

  pub one_fits : overruns size x ≡ false
  one_fits = steps.next x h (omega arith) ∙ ap (overruns size) (drop_all (size x) x (omega arith)) ∙ steps.fits_none

-- a row that begins with a piece
module _ (size : List ℕ → ℕ) (steps : PieceSteps size) (x rest : List ℕ) (h : 0 < length x) (e : size (x ++ rest) ≡ length x) where
  longer : length (x ++ rest) ≡ length x + length rest
  longer = length-append x rest

  pub first_piece : pieces size (x ++ rest) ≡ x ∷ pieces size rest
  first_piece = steps.first (x ++ rest) (omega (arith, longer)) ∙ ap (λ n. take n (x ++ rest) ∷ pieces size (drop n (x ++ rest))) e ∙ ap (λ p. p ∷ pieces size (drop (length x) (x ++ rest))) (take_at x rest (length x) refl) ∙ ap (λ r. x ∷ pieces size r) (drop_at x rest (length x) refl)

  pub first_fits : overruns size (x ++ rest) ≡ overruns size rest
  first_fits = steps.next (x ++ rest) (omega (arith, longer)) (omega (arith, longer, e)) ∙ ap (λ n. overruns size (drop n (x ++ rest))) e ∙ ap (overruns size) (drop_at x rest (length x) refl)

-- where the low bits are 0, fewer of them are
low_zero : (a j k : ℕ) → a % 2 ^ (j + k) ≡ 0 → a % 2 ^ k ≡ 0
low_zero a j k e = let s = mod-pow-add a j k in omega arith

is_prefix_lem : (p : Prefix) → is_prefix p.address p.length ≡ true → (p.address < 4294967296) × (p.address % 2 ^ (32 - p.length) ≡ 0)
is_prefix_lem p h = (grind (arith, nat_tests), grind (arith, nat_tests))

-- the bytes that are written hold the whole address
address_back : (a n : ℕ) → a < 4294967296 → n ≤ 24 → a % 2 ^ (32 - n) ≡ 0 → u32_of (take ((n + 7) / 8) (bytes32 a)) ≡ a
address_back a n h l e = by ((n + 7) / 8) refl
  where
    zeros : (j k : ℕ) → 32 - n ≡ j + k → a % 2 ^ k ≡ 0
    zeros j k s = low_zero a j k (ap (λ i. a % 2 ^ i) (sym s) ∙ e)

    by : (w : ℕ) → (n + 7) / 8 ≡ w → u32_of (take w (bytes32 a)) ≡ a
    by zero s = let z : a % 2 ^ 32 ≡ 0 = zeros 0 32 (omega arith) in omega arith
    by (suc zero) s = let z : a % 2 ^ 24 ≡ 0 = zeros (8 - n) 24 (omega arith) in omega arith
    by (suc (suc zero)) s = let z : a % 2 ^ 16 ≡ 0 = zeros (16 - n) 16 (omega arith) in omega (arith, u32_back a h, mod-pow-add a 8 8)
    by (suc (suc (suc zero))) s = let z : a % 2 ^ 8 ≡ 0 = zeros (24 - n) 8 (omega arith) in omega (arith, u32_back a h)
    by (suc (suc (suc (suc w)))) s = absurd (omega arith)

module _ (p : Prefix) (h : is_prefix p.address p.length ≡ true) where
  pub prefix_long : length (prefix_bytes p) ≡ 1 + (p.length + 7) / 8
  prefix_long = prefix_steps.size p h

  pub prefix_size_lem : prefix_size (prefix_bytes p) ≡ length (prefix_bytes p)
  unfolding prefix_bytes
  prefix_size_lem = sym prefix_long

  pub prefix_back : u32_of (drop 1 (prefix_bytes p)) ≡ p.address
  unfolding prefix_bytes
  prefix_back = let b = is_prefix_lem p h in address_back p.address p.length b.0 (short p h) b.1

  pub prefix_holds : holds_prefix (prefix_bytes p) ≡ true
  unfolding prefix_bytes
  prefix_holds = ap (λ b. b && is_prefix (u32_of (drop 1 (prefix_bytes p))) p.length) (eq-eqb (length (prefix_bytes p)) (prefix_size (prefix_bytes p)) (sym prefix_size_lem)) ∙ ap (λ a. is_prefix a p.length) prefix_back ∙ h

  same_prefix : prefix_of (prefix_bytes p) ≡ p
  unfolding prefix_bytes
  same_prefix = ap (λ a. record { address = a; length = p.length }) prefix_back

  pub prefix_named : named (prefix_bytes p) ≡ p ∷ []
  unfolding named prefixes_of
  prefix_named =
      ap prefixes_of (one_piece prefix_size prefix_pieces (prefix_bytes p) (omega (arith, prefix_long)) prefix_size_lem)
      ∙ cond-true (holds_prefix (prefix_bytes p)) (prefix_of (prefix_bytes p) ∷ []) [] prefix_holds
      ∙ ap (λ q. q ∷ []) same_prefix

  pub prefix_valid : has_no_prefix (prefix_bytes p) ≡ false
  unfolding some
  prefix_valid = ap (some (λ x. not (holds_prefix x))) (one_piece prefix_size prefix_pieces (prefix_bytes p) (omega (arith, prefix_long)) prefix_size_lem) ∙ ap (λ b. not b || false) prefix_holds

  pub prefix_fits : overruns prefix_size (prefix_bytes p) ≡ false
  prefix_fits = one_fits prefix_size prefix_pieces (prefix_bytes p) (omega (arith, prefix_long)) prefix_size_lem
