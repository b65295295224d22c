-- Looking for a prefix from the start of its bucket on finds what looking through the whole list does. Assumes nothing.
use Rattle.std.proofs.Common.{◌≡◌, ℕ, zero, suc, ◌+◌, ◌-◌, ◌*◌, ◌/◌, ◌%◌, ◌^◌, ◌<◌, ◌≤◌, min, Bool, true, false, ◌||◌, ◌≢◌, List, [], ◌∷◌, ◌++◌, map, length, get_or, take, drop, set, sym, refl, ap, ◌∙◌, subst, ⊎_elim, mod-lt, arith}
use native.Mathlib.Nat.{zero-min}
use Rattle.prefix.specs.Meant.{meant}
use Rattle.prefix.specs.Prefix.{Prefix, is_prefix, same, within}
use Rattle.prefix.specs.declared.Prefix.{Prefix as StoredPrefix}
use Rattle.std.proofs.lemmas.Nat.{pow_pos, shr_split}
use Rattle.std.proofs.lemmas.List.{get_or_past, get_or-set_other, get_or-set_same, length-append, length-set, take_all, take-append-drop, take-append-le}
use Rattle.std.proofs.lemmas.Bool.{cases_Bool, cases_eq, cases_lt, or_from, or_parts}
use Rattle.std.proofs.lemmas.Bool.Decides.{nat_tests}
use Rattle.policy.specs.Policy.{is_listed, is_covered}
use Rattle.policy.specs.Starts.{Lowered, Starts, bucket_of, first_bucket, last_bucket}

or_assoc : (a b c : Bool) → (a || (b || c)) ≡ ((a || b) || c)
or_assoc true b c = refl
or_assoc false b c = refl

covered_append : (p : Prefix) (xs ys : List StoredPrefix) → is_covered p (map meant (xs ++ ys)) ≡ (is_covered p (map meant xs) || is_covered p (map meant ys))
covered_append p [] ys = refl
covered_append p (x ∷ xs) ys = ap (λ b. within p (meant x) || b) (covered_append p xs ys) ∙ or_assoc (within p (meant x)) _ _

listed_append : (p : Prefix) (xs ys : List StoredPrefix) → is_listed p (map meant (xs ++ ys)) ≡ (is_listed p (map meant xs) || is_listed p (map meant ys))
listed_append p [] ys = refl
listed_append p (x ∷ xs) ys = ap (λ b. same p (meant x) || b) (listed_append p xs ys) ∙ or_assoc (same p (meant x)) _ _

-- a prefix is within itself, so one that is listed is covered
unlike : (p q : Prefix) → within p q ≡ false → same p q ≡ false
unlike p q h = grind (arith, nat_tests)

unlisted : (p : Prefix) (xs : List StoredPrefix) → is_covered p (map meant xs) ≡ false → is_listed p (map meant xs) ≡ false
unlisted p [] e = refl
unlisted p (x ∷ xs) e = let parts = or_parts (within p (meant x)) _ e in or_from _ _ (unlike p (meant x) parts.0) (unlisted p xs parts.1)

-- what is within q lies between its first address and its last
near : (p q : Prefix) → is_prefix q.address q.length ≡ true → within p q ≡ true → (q.address ≤ p.address) × (p.address ≤ q.address + (2 ^ (32 - q.length) - 1))
near p q hq h =
    let none : q.address % 2 ^ (32 - q.length) ≡ 0 = grind (arith, nat_tests) in
    let like : p.address / 2 ^ (32 - q.length) ≡ q.address / 2 ^ (32 - q.length) = grind (arith, nat_tests) in
    let times : p.address / 2 ^ (32 - q.length) * 2 ^ (32 - q.length) ≡ q.address / 2 ^ (32 - q.length) * 2 ^ (32 - q.length) = ap (λ x. x * 2 ^ (32 - q.length)) like in
    let this = shr_split p.address (32 - q.length) in
    let that = shr_split q.address (32 - q.length) in
    let below = mod-lt p.address (pow_pos (32 - q.length)) in
    (omega arith, omega arith)

-- and so do their buckets
beyond : (p : Prefix) (q : StoredPrefix) → (bucket_of p.address < first_bucket (meant q) → within p (meant q) ≡ false) × (last_bucket (meant q) < bucket_of p.address → within p (meant q) ≡ false)
beyond p q = (
  λ h. ⊎_elim (λ e. let at = near p (meant q) q.valid e in absurd (omega arith)) (λ e. e) (cases_Bool (within p (meant q))),
  λ h. ⊎_elim (λ e. let at = near p (meant q) q.valid e in absurd (omega arith)) (λ e. e) (cases_Bool (within p (meant q))),
)

-- of the members before a start all are passed over
behind : (p : Prefix) (s : ℕ) (xs : List StoredPrefix) → is_covered p (map meant (take s xs)) ≡ false → (is_covered p (map meant (drop s xs)) ≡ is_covered p (map meant xs)) × (is_listed p (map meant (drop s xs)) ≡ is_listed p (map meant xs))
behind p s xs e =
    let split = take-append-drop s xs in (
      sym (ap (λ b. b || is_covered p (map meant (drop s xs))) e) ∙ sym (covered_append p (take s xs) (drop s xs)) ∙ ap (λ l. is_covered p (map meant l)) split,
      sym (ap (λ b. b || is_listed p (map meant (drop s xs))) (unlisted p (take s xs) e)) ∙ sym (listed_append p (take s xs) (drop s xs)) ∙ ap (λ l. is_listed p (map meant l)) split,
    )

-- a start past the end passes over all
capped : (p : Prefix) (s n : ℕ) (xs : List StoredPrefix) → length xs ≤ n → is_covered p (map meant (take s xs)) ≡ false → is_covered p (map meant (take (min s n) xs)) ≡ false
capped p s n xs h e =
    ⊎_elim
    (λ less. let m : min s n ≡ s = omega arith in ap (λ k. is_covered p (map meant (take k xs))) m ∙ e)
    (λ most. let m : min s n ≡ n = omega arith in ap (λ k. is_covered p (map meant (take k xs))) m ∙ ap (λ l. is_covered p (map meant l)) (take_all n xs h ∙ sym (take_all s xs (omega arith))) ∙ e)
    (cases_lt s n)

pub from_start : (starts : List ℕ) (row : List StoredPrefix) (start : ℕ) (p : Prefix) → Starts starts row → start ≡ min (get_or starts (bucket_of p.address) 0) (length row) → (is_covered p (map meant (drop start row)) ≡ is_covered p (map meant row)) × (is_listed p (map meant (drop start row)) ≡ is_listed p (map meant row))
from_start starts row start p h e =
    let none = capped p (get_or starts (bucket_of p.address) 0) (length row) row (omega arith) (h p) in
    behind p start row (ap (λ s. is_covered p (map meant (take s row))) e ∙ none)

-- one prefix more, behind the others, of which p is not within
not_within : (p : Prefix) (q : StoredPrefix) → within p (meant q) ≡ false → is_covered p (map meant (q ∷ [])) ≡ false
not_within p q e = or_from _ _ e refl

grown : (p : Prefix) (s : ℕ) (xs : List StoredPrefix) (q : StoredPrefix) → is_covered p (map meant (take s xs)) ≡ false → within p (meant q) ≡ false → is_covered p (map meant (take s (xs ++ (q ∷ [])))) ≡ false
grown p s xs q e w =
    ⊎_elim
    (λ less. ap (λ l. is_covered p (map meant l)) (take-append-le s xs (q ∷ []) (omega arith)) ∙ e)
    (λ most. let size : length (xs ++ (q ∷ [])) ≤ s = omega (arith, length-append xs (q ∷ [])) in ap (λ l. is_covered p (map meant l)) (take_all s (xs ++ (q ∷ [])) size) ∙ covered_append p xs (q ∷ []) ∙ or_from _ _ (ap (λ l. is_covered p (map meant l)) (sym (take_all s xs (omega arith))) ∙ e) (not_within p q w))
    (cases_lt s (length xs + 1))

pub push : (old new : List ℕ) (members : List StoredPrefix) (q : StoredPrefix) → Starts old members → Lowered old new (first_bucket (meant q)) (last_bucket (meant q) + 1) (length members) → Starts new (members ++ (q ∷ []))
push old new members q h l p =
    let b = bucket_of p.address in
    let same : get_or new b 0 ≡ get_or old b 0 → within p (meant q) ≡ false → is_covered p (map meant (take (get_or new b 0) (members ++ (q ∷ [])))) ≡ false = λ e w. ap (λ s. is_covered p (map meant (take s (members ++ (q ∷ []))))) e ∙ grown p (get_or old b 0) members q (h p) w in
    ⊎_elim
    (λ before. same (l.before b before) ((beyond p q).0 before))
    (λ from.
    ⊎_elim
    (λ inside. ap (λ s. is_covered p (map meant (take s (members ++ (q ∷ []))))) (l.inside b from inside) ∙ ap (λ xs. is_covered p (map meant xs)) (take-append-le (min (get_or old b 0) (length members)) members (q ∷ []) (omega arith)) ∙ capped p (get_or old b 0) (length members) members (omega arith) (h p))
    (λ past. same (l.behind b past) ((beyond p q).1 (omega arith)))
    (cases_lt b (last_bucket (meant q) + 1)))
    (cases_lt b (first_bucket (meant q)))

pub empty : (s : ℕ) (p : Prefix) → is_covered p (map meant (take {A = StoredPrefix} s [])) ≡ false
empty s p = ap (λ (l : List StoredPrefix). is_covered p (map meant l)) (take_all s [] (omega arith))

pub past : (xs : List ℕ) (k n : ℕ) → length xs ≤ k → set xs k n ≡ xs
past [] k n h = refl
past (x ∷ xs) zero n h = absurd (omega arith)
past (x ∷ xs) (suc k) n h = ap (λ l. x ∷ l) (past xs k n (omega arith))

here : (xs : List ℕ) (k n : ℕ) → get_or (set xs k (min (get_or xs k 0) n)) k 0 ≡ min (get_or xs k 0) n
here xs k n =
    ⊎_elim
    (λ h. get_or-set_same xs k _ 0 h)
    (λ h. ap (λ l. get_or l k 0) (past xs k _ h) ∙ get_or_past xs k 0 h ∙ sym (ap (λ x. min x n) (get_or_past xs k 0 h) ∙ zero-min n))
    (cases_lt k (length xs))

more : (old new : List ℕ) (first k n : ℕ) → first ≤ k → Lowered old new first k n → Lowered old (set new k (min (get_or new k 0) n)) first (k + 1) n
more old new first k n from l = record {
  size = length-set new k _ ∙ l.size;
  inside = λ j low high. ⊎_elim (λ e. ap (λ i. get_or (set new k (min (get_or new k 0) n)) i 0) e ∙ here new k n ∙ ap (λ x. min x n) (l.behind k (omega arith)) ∙ ap (λ i. min (get_or old i 0) n) (sym e)) (λ ne. get_or-set_other new k j _ 0 ne ∙ l.inside j low (omega arith)) (cases_eq j k);
  before = λ j low. let ne : j ≢ k = omega arith in get_or-set_other new k j _ 0 ne ∙ l.before j low;
  behind = λ j high. let ne : j ≢ k = omega arith in get_or-set_other new k j _ 0 ne ∙ l.behind j (omega arith);
}

pub lowered_none : (starts : List ℕ) (first n : ℕ) → Lowered starts starts first first n
lowered_none starts first n = record { size = refl; inside = λ k low high. absurd (omega arith); before = λ k h. refl; behind = λ k h. refl }

pub lowered_more : (old new next : List ℕ) (first k n : ℕ) → first ≤ k → Lowered old new first k n → next ≡ set new k (min (get_or new k 0) n) → Lowered old next first (k + 1) n
lowered_more old new next first k n from l e = subst (λ (x : List ℕ). Lowered old x first (k + 1) n) (sym e) (more old new first k n from l)
