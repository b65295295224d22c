-- What bytes begin with, by cases, and that more bytes behind do not change it. Assumes nothing.
use Rattle.std.proofs.Common.{◌≡◌, ℕ, ◌<◌, ◌≤◌, List, ◌++◌, length, get_or, take, Some, None, Option, refl, ap, ◌∙◌, ⊎_elim, arith}
use Rattle.std.proofs.lemmas.List.{length-append, get_or_append_left, length-take-le, get_or-take}
use Rattle.std.proofs.lemmas.Bool.{cases_lt, cond-true, cond-false, lt-ltb, le-ltb}
use Rattle.std.proofs.lemmas.Bool.Decides.{nat_tests}
use Rattle.frame.specs.Size.{kind_of, size_of, framed, too_long, partial, unknown, largest, by_size, by_kind, begins}
use Rattle.frame.specs.declared.kind.Kind.{Kind}
use Rattle.frame.proofs.Sizes.{size_later, size_some, size_append, size_take}

-- the bytes begin with a frame of kind k and size n
pub record Head (xs : List ℕ) (k : Kind) (n : ℕ) : Type 0 where
  pub some : 1 ≤ length xs
  pub kind : kind_of (get_or xs 0 0) ≡ Some k
  pub size : size_of k xs ≡ Some n

pub data View (xs : List ℕ) : Type 0 where
  is_partial : begins xs ≡ partial → length xs < largest → View xs
  is_unknown : 1 ≤ length xs → kind_of (get_or xs 0 0) ≡ None → View xs
  is_long : (k : Kind) (n : ℕ) → Head xs k n → largest < n → View xs
  is_frame : (k : Kind) (n : ℕ) → Head xs k n → n ≤ largest → n ≤ length xs → View xs

pub begins_unknown : (xs : List ℕ) → 1 ≤ length xs → kind_of (get_or xs 0 0) ≡ None → begins xs ≡ unknown
begins_unknown xs h e = grind (arith, nat_tests)

-- the size decides what bytes of a known kind begin with
pub begins_sized : (xs : List ℕ) (k : Kind) → 1 ≤ length xs → kind_of (get_or xs 0 0) ≡ Some k → begins xs ≡ by_size xs k (size_of k xs)
begins_sized xs k some kind = cond-false _ _ _ (le-ltb (length xs) 1 some) ∙ ap (by_kind xs) kind

begins_head : (xs : List ℕ) (k : Kind) (n : ℕ) → Head xs k n → begins xs ≡ by_size xs k (Some n)
begins_head xs k n h = begins_sized xs k h.some h.kind ∙ ap (by_size xs k) h.size

pub begins_long : (xs : List ℕ) (k : Kind) (n : ℕ) → Head xs k n → largest < n → begins xs ≡ too_long n
begins_long xs k n h l = begins_head xs k n h ∙ cond-true _ _ _ (lt-ltb largest n l)

pub begins_frame : (xs : List ℕ) (k : Kind) (n : ℕ) → Head xs k n → n ≤ largest → n ≤ length xs → begins xs ≡ framed k (take n xs)
begins_frame xs k n h l w = begins_head xs k n h ∙ cond-false _ _ _ (le-ltb largest n l) ∙ cond-false _ _ _ (le-ltb (length xs) n w)

begins_short : (xs : List ℕ) (k : Kind) (n : ℕ) → Head xs k n → n ≤ largest → length xs < n → begins xs ≡ partial
begins_short xs k n h l w = begins_head xs k n h ∙ cond-false _ _ _ (le-ltb largest n l) ∙ cond-true _ _ _ (lt-ltb (length xs) n w)

by_size_lem : (xs : List ℕ) (k : Kind) → 1 ≤ length xs → kind_of (get_or xs 0 0) ≡ Some k → (o : Option ℕ) → size_of k xs ≡ o → View xs
by_size_lem xs k some kind None size = is_partial (begins_sized xs k some kind ∙ ap (by_size xs k) size) (omega (arith, size_later k xs size))
by_size_lem xs k some kind (Some n) size =
    let h : Head xs k n = record { some = some; kind = kind; size = size } in
    ⊎_elim (λ l. is_long k n h l)
    (λ l. ⊎_elim (λ w. is_partial (begins_short xs k n h l w) (omega arith)) (λ w. is_frame k n h l w) (cases_lt (length xs) n))
    (cases_lt largest n)

by_kind_lem : (xs : List ℕ) → 1 ≤ length xs → (o : Option Kind) → kind_of (get_or xs 0 0) ≡ o → View xs
by_kind_lem xs some None kind = is_unknown some kind
by_kind_lem xs some (Some k) kind = by_size_lem xs k some kind (size_of k xs) refl

pub view : (xs : List ℕ) → View xs
view xs =
    ⊎_elim (λ l. is_partial (cond-true _ _ _ (lt-ltb (length xs) 1 l)) (omega arith)) (λ some. by_kind_lem xs some (kind_of (get_or xs 0 0)) refl)
    (cases_lt (length xs) 1)

-- bytes ys that begin as xs do, as far as a frame of n bytes goes, begin with the same frame
pub same_head : (xs ys : List ℕ) (k : Kind) (n : ℕ) → Head xs k n → 1 ≤ length ys → get_or ys 0 0 ≡ get_or xs 0 0 → size_of k ys ≡ Some n → Head ys k n
same_head xs ys k n h some first size = record { some = some; kind = ap kind_of first ∙ h.kind; size = size }

pub head_append : (xs ys : List ℕ) (k : Kind) (n : ℕ) → Head xs k n → Head (xs ++ ys) k n
head_append xs ys k n h =
    same_head xs (xs ++ ys) k n h (simp length-append (omega arith)) (get_or_append_left xs ys 0 0 (omega (arith, h.some))) (size_append k xs ys n h.size)

pub head_take : (xs : List ℕ) (k : Kind) (n : ℕ) → Head xs k n → n ≤ length xs → Head (take n xs) k n
head_take xs k n h w =
    let long = length-take-le n xs w in
    let some = size_some k xs n h.size in
    same_head xs (take n xs) k n h (omega arith) (get_or-take n xs 0 0 some) (size_take k xs n h.size w ∙ ap Some long)
