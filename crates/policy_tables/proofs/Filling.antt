-- Spans in a pool that grows, lists, and the items of a text. Assumes nothing.
use Rattle.std.proofs.Common.{◌≡◌, ℕ, zero, suc, ◌+◌, ◌-◌, ◌<◌, ◌≤◌, Bool, true, false, ◌&&◌, leb, List, [], ◌∷◌, ◌++◌, map, length, get_or, take, drop, set, is_some, Some, None, Option, sym, refl, ap, ◌∙◌, arith, length-drop, length-take}
use Rattle.std.proofs.lemmas.Grind.{common_steps}
use Rattle.policy.specs.declared.Clause.{Clause}
use Rattle.policy.specs.declared.PrefixList.{PrefixList}
use Rattle.policy.specs.Meant.{prefixes_of}
use Rattle.policy_clauses.specs.Meant.{written_of}
use Rattle.policy_clauses.specs.Reading.{Got, Stop, next}
use Rattle.policy_clauses.specs.declared.Awaited.TheVariants as awaited
use Rattle.text_tokens.specs.Meant.{pulled_as}
use Rattle.text_tokens.specs.Tokens.{Source, Ended, More, Token}
use Rattle.text_tokens.specs.declared.Kind.{Kind}
use Rattle.text_tokens.specs.declared.Kind.TheVariants.{Word, Sign, End}
use Rattle.policy_tables.specs.Texts.{Draft, item, items}
use Rattle.std.proofs.lemmas.List.{drop-append-le, length-map, length_push, map_push, take-append-drop, take-append-le, take_rest, map-set}
use Rattle.std.proofs.lemmas.Bool.{le-leb}
use Rattle.std.proofs.lemmas.Bool.Decides.{nat_tests}
use Rattle.policy_tables.specs.declared.Span.{Span}
use Rattle.policy_tables.specs.Slots.{all_fit, fits, slot_policy}

pub both : (x y : Bool) → (x && y) ≡ true → (x ≡ true) × (y ≡ true)
both true true h = (refl, refl)
both true false h = let z : ◌≡◌ {A = ℕ} 0 1 = cc in absurd (omega arith)
both false y h = let z : ◌≡◌ {A = ℕ} 0 1 = cc in absurd (omega arith)

pub leb_is : (a b : ℕ) → leb a b ≡ true → a ≤ b
leb_is a b h = grind (arith, nat_tests)

-- a pool that has grown from n clauses on, and the span of its new clauses
abbrev pub new_span : ℕ → ℕ → Option Span
new_span start end = Some (record { start = start; count = end - start })

pub longer : (old new : List Clause) → take (length old) new ≡ old → length old ≤ length new
longer old new e = omega (arith, ap length e, length-take (length old) new)

fits_more : (m n : ℕ) (s : Option Span) → m ≤ n → fits m s ≡ true → fits n s ≡ true
fits_more m n None l h = refl
fits_more m n (Some s) l h = grind (arith, nat_tests)

fit_more : (m n : ℕ) (spans : List (Option Span)) → m ≤ n → all_fit m spans ≡ true → all_fit n spans ≡ true
fit_more m n [] l h = refl
fit_more m n (s ∷ ss) l h =
    let p = both (fits m s) (all_fit m ss) h in
    let here = fits_more m n s l p.0 in
    let more = fit_more m n ss l p.1 in
    grind (arith, nat_tests)

fit_set : (n : ℕ) (spans : List (Option Span)) (i : ℕ) (s : Option Span) → fits n s ≡ true → all_fit n spans ≡ true → all_fit n (set spans i s) ≡ true
fit_set n [] i s b h = refl
fit_set n (x ∷ xs) zero s b h = let p = both (fits n x) (all_fit n xs) h in grind (arith, nat_tests)
fit_set n (x ∷ xs) (suc i) s b h =
    let p = both (fits n x) (all_fit n xs) h in
    let more = fit_set n xs i s b p.1 in
    grind (arith, nat_tests)

-- spans stay within a pool that grows
pub grown : (old new : List Clause) (spans : List (Option Span)) → take (length old) new ≡ old → all_fit (length old) spans ≡ true → all_fit (length new) spans ≡ true
grown old new spans e h = fit_more (length old) (length new) spans (longer old new e) h

pub filled : (old new : List Clause) (spans : List (Option Span)) (i : ℕ) → take (length old) new ≡ old → all_fit (length old) spans ≡ true → all_fit (length new) (set spans i (new_span (length old) (length new))) ≡ true
filled old new spans i e h =
    let l = longer old new e in
    let end : length old + (length new - length old) ≤ length new = omega arith in
    fit_set (length new) spans i (new_span (length old) (length new)) (le-leb _ _ end) (fit_more (length old) (length new) spans l h)

-- what stands in the old part of the pool stands there in the new one
part_stays : (old new : List Clause) (start count : ℕ) → take (length old) new ≡ old → start + count ≤ length old → take count (drop start new) ≡ take count (drop start old)
part_stays old new start count e h =
    let rest : List Clause = drop (length old) new in
    let whole : new ≡ old ++ rest = sym (take-append-drop (length old) new) ∙ ap (λ xs. xs ++ rest) e in
    ap (λ xs. take count (drop start xs)) whole
    ∙ ap (take count) (drop-append-le start old rest (omega arith))
    ∙ take-append-le count (drop start old) rest (omega (arith, length-drop start old))

same_policy : (old new : List Clause) (s : Option Span) → take (length old) new ≡ old → fits (length old) s ≡ true → slot_policy new s ≡ slot_policy old s
same_policy old new None e h = refl
same_policy old new (Some s) e h = ap (λ cs. Some (map written_of cs)) (part_stays old new s.start s.count e (leb_is _ _ h))

-- spans have in a pool that has grown what they had
pub same_policies : (old new : List Clause) (spans : List (Option Span)) → take (length old) new ≡ old → all_fit (length old) spans ≡ true → map (slot_policy new) spans ≡ map (slot_policy old) spans
same_policies old new [] e h = refl
same_policies old new (s ∷ ss) e h =
    let p = both (fits (length old) s) (all_fit (length old) ss) h in
    (λ i. same_policy old new s e p.0 i ∷ same_policies old new ss e p.1 i)

-- the new span has the new clauses, the others have what they had
pub named : (old new : List Clause) (spans : List (Option Span)) (i : ℕ) → take (length old) new ≡ old → all_fit (length old) spans ≡ true → map (slot_policy new) (set spans i (new_span (length old) (length new))) ≡ set (map (slot_policy old) spans) i (Some (map written_of (drop (length old) new)))
named old new spans i e h =
    map-set (slot_policy new) spans i (new_span (length old) (length new))
    ∙ ap (λ ps. set ps i (slot_policy new (new_span (length old) (length new)))) (same_policies old new spans e h)
    ∙ ap (λ cs. set (map (slot_policy old) spans) i (Some (map written_of cs))) (take_rest new (length old))

pub counts : (old new : List Clause) → take (length old) new ≡ old → length old + length (map written_of (drop (length old) new)) ≡ length new
counts old new e = let l = longer old new e in omega (arith, length-map (drop (length old) new) written_of, length-drop (length old) new)

-- one list more
pub listed_more : (ls : List PrefixList) (l : PrefixList) → map prefixes_of (ls ++ (l ∷ [])) ≡ map prefixes_of ls ++ (prefixes_of l ∷ [])
listed_more ls l = map_push prefixes_of ls l

pub listed_count : (ls : List PrefixList) → length (map prefixes_of ls) ≡ length ls
listed_count ls = length-map ls prefixes_of

-- what stands at a place of the row of policies is that of the span there
pub at_place : (pool : List Clause) (spans : List (Option Span)) (i : ℕ) → get_or (map (slot_policy pool) spans) i None ≡ slot_policy pool (get_or spans i None)
at_place pool [] i = refl
at_place pool (s ∷ ss) zero = refl
at_place pool (s ∷ ss) (suc i) = at_place pool ss i

same_some : (pool : List Clause) (s : Option Span) → is_some (slot_policy pool s) ≡ is_some s
same_some pool None = refl
same_some pool (Some s) = refl

pub some_at : (pool : List Clause) (spans : List (Option Span)) (i : ℕ) → is_some (get_or (map (slot_policy pool) spans) i None) ≡ is_some (get_or spans i None)
some_at pool spans i = ap is_some (at_place pool spans i) ∙ same_some pool (get_or spans i None)

-- lists and policies, one by one
pub items_none : (k peers : ℕ) (d : Draft) (at : ℕ) → items k peers d (Ended at) ≡ Got d (Ended at)
unfolding items
items_none zero peers d at = refl
items_none (suc k) peers d at = refl

items_more : (k peers : ℕ) (d : Draft) (t : Token) (rest : Source) → items (suc k) peers d (More t rest) ≡ next (item peers d t rest) (λ e rest₂. items k peers e rest₂)
unfolding items
items_more k peers d t rest = refl

pub items_step : (n peers : ℕ) (d : Draft) (t : Token) (rest : Source) → n < 192 → items (192 - n) peers d (More t rest) ≡ next (item peers d t rest) (λ e rest₂. items (192 - (n + 1)) peers e rest₂)
items_step n peers d t rest h =
    let one : 192 - n ≡ suc (192 - (n + 1)) = omega arith in
    ap (λ k. items k peers d (More t rest)) one ∙ items_more (192 - (n + 1)) peers d t rest

none_more : (peers : ℕ) (d : Draft) (t : Token) (rest : Source) → items 0 peers d (More t rest) ≡ Stop t.at awaited.End
unfolding items
none_more peers d t rest = refl

-- behind the last item that may come stands the end
pub items_full : (n peers : ℕ) (d : Draft) (at : ℕ) (fresh : Bool) (k : Kind) (rest : Source) → 192 ≤ n → (k ≡ End → ⊥) → items (192 - n) peers d (pulled_as at fresh k rest) ≡ Stop at awaited.End
items_full n peers d at fresh k rest h more = let zero_left : 192 - n ≡ 0 = omega arith in ap (λ j. items j peers d (pulled_as at fresh k rest)) zero_left ∙ all k more
  where
    all : (k : Kind) → (k ≡ End → ⊥) → items 0 peers d (pulled_as at fresh k rest) ≡ Stop at awaited.End
    all (Word w) g = none_more peers d _ rest
    all (Sign s) g = none_more peers d _ rest
    all End g = absurd (g refl)

pub ruleset listing = (listed_more, listed_count, length_push, common_steps)

pub ruleset growing = (grown, filled, named, longer, counts, same_policies, common_steps)

pub ruleset itemizing = (items_none, items_step, items_full, common_steps)
