-- Numbers, prefixes and names are read as they are printed. Assumes nothing.
use Rattle.std.proofs.Common.{◌≡◌, ℕ, zero, suc, ◌+◌, ◌-◌, ◌*◌, ◌/◌, ◌%◌, ◌^◌, ◌<◌, ◌≤◌, Bool, true, false, cond, ◌&&◌, eqb, ltb, leb, List, [], ◌∷◌, ◌++◌, length, Some, None, decimal, Option, sym, refl, ap, ◌∙◌, ⊎_elim, append_assoc, append-nil, arith}
use Rattle.policy_clauses.specs.Reading.{index_from, index_of}
use Rattle.policy_print.specs.Printed.{name_text, prefix_text}
use Rattle.policy_tables.proofs.Truths.{found_at_end, stays}
use Rattle.std.specs.List.{list_all}
use Rattle.policy_words.specs.Words.{address_of, and_then, checked, if_done, is_ascii, is_name, is_name_byte, leading, leading_from, number_of, octet, octet_of, prefix_of}
use Rattle.prefix.specs.Prefix.{Prefix, is_prefix}
use Rattle.std.proofs.lemmas.Fmt.{decimal_by_steps, decimal_injective}
use Rattle.std.proofs.lemmas.Slice.Eq.{bytes_eq-Decides}
use Rattle.std.proofs.lemmas.List.{length_push}
use Rattle.std.proofs.lemmas.Bool.{and_from, and_parts, cases_Bool, cases_lt, cond-false, cond-true, leb-true, lt-ltb, ltb-true}
use Rattle.std.proofs.lemmas.Bool.Decides.{nat_tests}
use Rattle.std.specs.Char.{is_ascii_digit}
use Rattle.std.specs.List.{AllByRecursion as All}
use Rattle.std.specs.Str.{bytes_eq}
use Rattle.text_tokens.proofs.Plain.{IsLetter}
use Rattle.policy_print_laws.specs.Limits.{IsPrefix}

pub record IsFigure (b : ℕ) : Type 0 where
  pub low : 48 ≤ b
  pub high : b ≤ 57

pub all_append : {A : Type 0} (P : A → Type 0) (xs ys : List A) → All P xs → All P ys → All P (xs ++ ys)
all_append P [] ys h g = g
all_append P (x ∷ xs) ys h g = (h.0, all_append P xs ys h.1 g)

pub all_weaker : {A : Type 0} (P Q : A → Type 0) → ((x : A) → P x → Q x) → (xs : List A) → All P xs → All Q xs
all_weaker P Q f [] h = tt
all_weaker P Q f (x ∷ xs) h = (f x h.0, all_weaker P Q f xs h.1)

pub figures : (n : ℕ) → n < 2 ^ 64 → All IsFigure (decimal n)
figures =
    decimal_by_steps (λ _ ds. All IsFigure ds)
    (λ n h. (record { low = omega arith; high = omega arith }, tt))
    (λ n ds h all. all_append IsFigure ds ((48 + n % 10) ∷ []) all (record { low = omega arith; high = omega arith }, tt))

-- a byte of a word that can be read
pub record Plainly (b : ℕ) : Type 0 where
  pub letter : IsLetter b
  pub ascii : ltb b 128 ≡ true

figure_plainly : (b : ℕ) → IsFigure b → Plainly b
figure_plainly b h = let l = h.low in let u = h.high in record { letter = grind (arith, nat_tests); ascii = grind (arith, nat_tests) }

pub plain_decimal : (n : ℕ) → n < 2 ^ 64 → All Plainly (decimal n)
plain_decimal n h = all_weaker IsFigure Plainly figure_plainly (decimal n) (figures n h)

pub letters : (w : List ℕ) → All Plainly w → All IsLetter w
letters w h = all_weaker Plainly IsLetter (λ b p. p.letter) w h

pub ascii : (w : List ℕ) → All Plainly w → is_ascii w ≡ true
ascii [] h = refl
ascii (b ∷ bs) h = and_from (ltb b 128) (is_ascii bs) h.0.ascii (ascii bs h.1)

is_digit : (b : ℕ) → 48 ≤ b → b ≤ 57 → is_ascii_digit b ≡ true
is_digit b l h = grind (arith, nat_tests)

-- one digit
digit : (m n d : ℕ) (rest : List ℕ) → d < 10 → n ≡ m * 10 + d → n < 2 ^ 32 → leading_from m ((48 + d) ∷ rest) ≡ leading_from n rest
unfolding leading_from
digit m n d rest h e small =
    let back : m * 10 + (48 + d - 48) ≡ n = omega arith in
    cond-true (is_ascii_digit (48 + d)) _ _ (is_digit (48 + d) (omega arith) (omega arith))
    ∙ ap (λ k. cond (ltb k (2 ^ 32)) (leading_from k rest) None) back
    ∙ cond-true (ltb n (2 ^ 32)) _ _ (lt-ltb n (2 ^ 32) small)

pub leading_decimal : (n : ℕ) → n < 2 ^ 64 → n < 2 ^ 32 → (rest : List ℕ) → leading (decimal n ++ rest) ≡ leading_from n rest
leading_decimal =
    decimal_by_steps (λ n ds. n < 2 ^ 32 → (rest : List ℕ) → leading (ds ++ rest) ≡ leading_from n rest)
    (λ n h small rest. cond-true (is_ascii_digit (48 + n)) _ _ (is_digit (48 + n) (omega arith) (omega arith)) ∙ digit 0 n n rest h (omega arith) small)
    (λ n ds h before small rest.
    ap leading (append_assoc ds ((48 + n % 10) ∷ []) rest)
    ∙ before (omega arith) ((48 + n % 10) ∷ rest)
    ∙ digit (n / 10) n (n % 10) rest (omega arith) (omega arith) small)

pub number_decimal : (n : ℕ) → n < 2 ^ 32 → number_of (decimal n) ≡ Some n
unfolding leading_from
number_decimal n h = ap (λ w. and_then (leading w) if_done) (sym (append-nil (decimal n))) ∙ ap (λ o. and_then o if_done) (leading_decimal n (omega arith) h [])

octet_decimal : (sign n : ℕ) (rest : List ℕ) → is_ascii_digit sign ≡ false → n < 256 → octet sign (decimal n ++ (sign ∷ rest)) ≡ Some (n, rest)
unfolding leading_from
octet_decimal sign n rest other h =
    ap (λ o. and_then o (octet_of sign)) (leading_decimal n (omega arith) (omega arith) (sign ∷ rest) ∙ stopped)
    ∙ cond-true (ltb n 256 && eqb sign sign) _ _ (grind (arith, nat_tests))
  where
    stopped : leading_from n (sign ∷ rest) ≡ Some (n, sign ∷ rest)
    stopped = cond-false (is_ascii_digit sign) _ _ other

so : {A B : Type 0} (o : Option A) (x : A) (f : A → Option B) → o ≡ Some x → and_then o f ≡ f x
so o x f e = ap (λ v. and_then v f) e

-- a prefix, behind none to four of its bytes
abbrev behind_four : ℕ → ℕ → ℕ → ℕ × List ℕ → Option Prefix
behind_four a b c d = and_then (number_of d.1) (λ length. checked (address_of a b c d.0) length)

abbrev behind_three : ℕ → ℕ → ℕ × List ℕ → Option Prefix
behind_three a b c = and_then (octet 47 c.1) (λ d. behind_four a b c.0 d)

abbrev behind_two : ℕ → ℕ × List ℕ → Option Prefix
behind_two a b = and_then (octet 46 b.1) (λ c. behind_three a b.0 c)

abbrev behind_one : ℕ × List ℕ → Option Prefix
behind_one a = and_then (octet 46 a.1) (λ b. behind_two a.0 b)

bytes_back : (n : ℕ) → address_of (n / 16777216) (n / 65536 % 256) (n / 256 % 256) (n % 256) ≡ n
bytes_back n = omega arith

pub prefix_back : (p : Prefix) → IsPrefix p → prefix_of (prefix_text p) ≡ Some p
prefix_back p h =
    let parts = and_parts (ltb p.address (2 ^ 32)) _ h in
    let small = ltb-true p.address (2 ^ 32) parts.0 in
    let short = leb-true p.length 24 (and_parts (leb p.length 24) _ parts.1).0 in
    let n : ℕ = p.address in
    let a : ℕ = n / 16777216 in
    let b : ℕ = n / 65536 % 256 in
    let c : ℕ = n / 256 % 256 in
    let d : ℕ = n % 256 in
    let w₄ : List ℕ = decimal p.length in
    let w₃ : List ℕ = decimal d ++ (47 ∷ w₄) in
    let w₂ : List ℕ = decimal c ++ (46 ∷ w₃) in
    let w₁ : List ℕ = decimal b ++ (46 ∷ w₂) in
    so (octet 46 (decimal a ++ (46 ∷ w₁))) (a, w₁) behind_one (octet_decimal 46 a w₁ refl (omega arith))
    ∙ so (octet 46 w₁) (b, w₂) (behind_two a) (octet_decimal 46 b w₂ refl (omega arith))
    ∙ so (octet 46 w₂) (c, w₃) (behind_three a b) (octet_decimal 46 c w₃ refl (omega arith))
    ∙ so (octet 47 w₃) (d, w₄) (behind_four a b c) (octet_decimal 47 d w₄ refl (omega arith))
    ∙ so (number_of w₄) p.length (checked (address_of a b c d)) (number_decimal p.length (omega arith))
    ∙ ap (λ m. checked m p.length) (bytes_back n)
    ∙ cond-true (is_prefix n p.length) _ _ h

pub plain_prefix : (p : Prefix) → IsPrefix p → All Plainly (prefix_text p)
plain_prefix p h =
    let parts = and_parts (ltb p.address (2 ^ 32)) _ h in
    let small = ltb-true p.address (2 ^ 32) parts.0 in
    let short = leb-true p.length 24 (and_parts (leb p.length 24) _ parts.1).0 in
    let dot : Plainly 46 = record { letter = refl; ascii = refl } in
    let slash : Plainly 47 = record { letter = refl; ascii = refl } in
    let n : ℕ = p.address in
    all_append Plainly (decimal (n / 16777216)) _ (plain_decimal (n / 16777216) (omega arith)) (
      dot,
      all_append Plainly (decimal (n / 65536 % 256)) _ (plain_decimal (n / 65536 % 256) (omega arith)) (
        dot,
        all_append Plainly (decimal (n / 256 % 256)) _ (plain_decimal (n / 256 % 256) (omega arith)) (
          dot,
          all_append Plainly (decimal (n % 256)) _ (plain_decimal (n % 256) (omega arith))
              (slash, plain_decimal p.length (omega arith)),
        ),
      ),
    )

-- the names of n lists
unfoldable pub names_below : ℕ → List (List ℕ)
names_below zero = []
names_below (suc n) = names_below n ++ (name_text n ∷ [])

pub plain_name : (i : ℕ) → i < 2 ^ 64 → All Plainly (name_text i)
plain_name i h = (record { letter = refl; ascii = refl }, plain_decimal i h)

name_bytes : (w : List ℕ) → All IsFigure w → list_all is_name_byte w ≡ true
name_bytes [] h = refl
name_bytes (b ∷ bs) h = let l = h.0.low in let u = h.0.high in and_from (is_name_byte b) (list_all is_name_byte bs) (grind (arith, nat_tests)) (name_bytes bs h.1)

pub is_name_lem : (i : ℕ) → i < 2 ^ 64 → is_name (name_text i) ≡ true
is_name_lem i h = name_bytes (decimal i) (figures i h)

other_name : (i j : ℕ) → i < 2 ^ 64 → j < 2 ^ 64 → (i ≡ j → ⊥) → bytes_eq (name_text i) (name_text j) ≡ false
other_name i j hi hj d =
    ⊎_elim
    (λ e. let same = (bytes_eq-Decides (name_text i) (name_text j)).0 e in let digits : decimal i ≡ decimal j = cc in absurd (d (decimal_injective i j hi hj digits)))
    (λ e. e)
    (cases_Bool (bytes_eq (name_text i) (name_text j)))

passed : (b : Bool) (k : ℕ) (x y : Option ℕ) → (x ≡ None → y ≡ None) → cond b (Some k) x ≡ None → cond b (Some k) y ≡ None
passed true k x y h g = let z : ◌≡◌ {A = ℕ} 0 1 = cc in absurd (omega arith)
passed false k x y h g = h g

not_behind : (k : ℕ) (name other : List ℕ) (names : List (List ℕ)) → index_from k name names ≡ None → bytes_eq name other ≡ false → index_from k name (names ++ (other ∷ [])) ≡ None
not_behind k name other [] h e = cond-false (bytes_eq name other) _ _ e
not_behind k name other (x ∷ xs) h e = passed (bytes_eq name x) k (index_from (k + 1) name xs) (index_from (k + 1) name (xs ++ (other ∷ []))) (λ g. not_behind (k + 1) name other xs g e) h

pub absent : (n i : ℕ) → n ≤ i → i < 2 ^ 64 → index_of (name_text i) (names_below n) ≡ None
unfolding names_below
absent zero i h small = refl
absent (suc n) i h small = not_behind 0 (name_text i) (name_text n) (names_below n) (absent n i (omega arith) small) (other_name i n small (omega arith) (λ e. omega arith))

pub length_names : (n : ℕ) → length (names_below n) ≡ n
unfolding names_below
length_names zero = refl
length_names (suc n) = let l = length_push (names_below n) (name_text n) in let m = length_names n in omega arith

pub present : (n i : ℕ) → i < n → n ≤ 64 → index_of (name_text i) (names_below n) ≡ Some i
unfolding names_below
present zero i h few = absurd (omega arith)
present (suc n) i h few =
    ⊎_elim
    (λ less. stays 0 (name_text i) (name_text n) (names_below n) i (present n i less (omega arith)))
    (λ more.
    let same : i ≡ n = omega arith in
    let size : 0 + length (names_below n) ≡ i = omega (arith, length_names n) in
    ap (λ m. index_of (name_text i) (names_below n ++ (name_text m ∷ []))) (sym same) ∙ found_at_end 0 (name_text i) (names_below n) (absent n i more (omega arith)) ∙ ap Some size)
    (cases_lt i n)
