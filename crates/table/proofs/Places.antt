-- Where the library's searches end in a row that rises. Assumes nothing.
use Rattle.std.proofs.Common.{◌≡◌, ℕ, ◌<◌, ◌≤◌, true, false, ltb, List, length, get_or, Result, Ok, Err, MatchResult, sym, ap, subst, ◌∙◌, ⊎_elim, arith}
use Rattle.std.proofs.lemmas.List.{get_or_default}
use Rattle.std.proofs.lemmas.Bool.{cases_eq, cases_lt, ltb-true, ltb-false}
use Rattle.std.proofs.lemmas.Bool.Decides.{nat_tests}
use Rattle.std.proofs.lemmas.Cmp.{ranked}
use Rattle.std.specs.List.Sorted.{IsBinarySearchResult, IsNonDecreasingBy, IsPartitionPoint, IsSearchInRange}
use Rattle.std.specs.Ordering.{nat_cmp, ordering_index}
use Rattle.table.proofs.Changes.{absent_laws, found_laws}
use Rattle.table.specs.Steps.{AbsentLaws, FoundLaws}
use Rattle.table.specs.Table.{FirstBetween, NoneBetween, Placed, Rises, key_of}
use Rattle.table.specs.declared.entry.Entry.{Entry}

-- no key of a later entry is smaller
pub climbs : (es : List Entry) → Rises es → IsNonDecreasingBy (λ e. e.key) es
climbs es rises i j d le within = ⊎_elim (λ (same : i ≡ j). let e = ap (λ k. (get_or es k d).key) same in omega arith) (λ other. let less = rises i j d (omega arith) within in omega arith) (cases_eq i j)

ranks : (es : List Entry) (key : ℕ) → Rises es → IsNonDecreasingBy (λ e. ordering_index (nat_cmp e.key key)) es
ranks es key rises i j d le within = let l = climbs es rises i j d le within in grind (arith, nat_tests)

pub searched : (es : List Entry) (peer prefix : ℕ) (r : Result ℕ ℕ) → Rises es → peer < 256 → IsSearchInRange r (length es) → IsBinarySearchResult (λ e. nat_cmp e.key (key_of peer prefix)) es r → MatchResult r (FoundLaws es peer prefix) (AbsentLaws es peer prefix)
searched es peer prefix (Ok i) rises byte within at = found_laws es peer prefix i rises byte (record { within = within; at = λ d. ranked (get_or es i d).key (key_of peer prefix) _ (sym (at d)) })
searched es peer prefix (Err i) rises byte within at =
    let parts = at (ranks es (key_of peer prefix) rises) in
    absent_laws es peer prefix i rises byte (record { within = within; before = λ j d low l. ranked (get_or es j d).key (key_of peer prefix) _ (sym (parts.0 j d low l)); behind = λ j d low l. ranked (get_or es j d).key (key_of peer prefix) _ (sym (parts.1 j d low l)) })

pub placed : (es : List Entry) (key i : ℕ) → i ≤ length es → IsPartitionPoint (λ e. ltb e.key key ≡ true) (λ e. ltb e.key key ≡ false) es i → Placed es key i
placed es key i within parts = record { within = within; before = λ j d low l. ltb-true (get_or es j d).key key (parts.0 j d low l); behind = λ j d low l. ltb-false (get_or es j d).key key (parts.1 j d low l) }

-- the first entry from a key on, if there is one below another key
pub none_left : (es : List Entry) (from until i : ℕ) → Placed es from i → length es ≤ i → NoneBetween es from until
none_left es from until i at end = record { none = λ j d l low high. let less = at.before j d (omega arith) (omega arith) in omega arith }

from_place : (es : List Entry) (from i : ℕ) (e : Entry) → Rises es → Placed es from i → i < length es → e ≡ get_or es i e → (j : ℕ) (d : Entry) → j < length es → from ≤ (get_or es j d).key → e.key ≤ (get_or es j d).key
from_place es from i e rises at within is j d l low =
    ⊎_elim
    (λ b. let less = at.before j d (omega arith) b in omega arith)
    (λ b. let le = climbs es rises i j d b l in subst (λ n. n ≤ (get_or es j d).key) (sym (ap (λ x. x.key) (is ∙ get_or_default es i e d within))) le)
    (cases_lt j i)

pub none_below : (es : List Entry) (from until i : ℕ) (e : Entry) → Rises es → Placed es from i → i < length es → e ≡ get_or es i e → until ≤ e.key → NoneBetween es from until
none_below es from until i e rises at within is high = record { none = λ j d l low below. let le = from_place es from i e rises at within is j d l low in omega arith }

pub first_below : (es : List Entry) (from until i : ℕ) (e : Entry) → Rises es → Placed es from i → i < length es → e ≡ get_or es i e → e.key < until → FirstBetween es from until e
first_below es from until i e rises at within is high = record {
  place = i;
  within = within;
  is = is;
  low = subst (λ n. from ≤ n) (sym (ap (λ x. x.key) is)) (at.behind i e (omega arith) within);
  high = high;
  lower = record { none = λ j d l low below. let le = from_place es from i e rises at within is j d l low in omega arith };
}
