-- A frame's size is told by its first bytes alone. Assumes nothing.
use Rattle.std.proofs.Common.{◌≡◌, ℕ, ◌<◌, ◌≤◌, List, ◌++◌, length, get_or, take, Some, None, ap, ◌∙◌, arith, length-append, get_or-take}
use Rattle.std.proofs.lemmas.List.{length-take-le, get_or_append_left}
use Rattle.std.proofs.lemmas.Bool.Decides.{nat_tests}
use Rattle.frame.specs.Size.{known_at, size_of}
use Rattle.frame.specs.declared.kind.Kind.{Kind}
use Rattle.frame.specs.declared.kind.Kind.TheVariants.{Message, Session, Tick, PolicyText, Settings}

known_from : (m : ℕ) (xs : List ℕ) (size n : ℕ) → known_at m xs size ≡ Some n → (m ≤ length xs) × (size ≡ n)
known_from m xs size n e = grind (arith, nat_tests)

known_to : (m : ℕ) (xs : List ℕ) (size : ℕ) → m ≤ length xs → known_at m xs size ≡ Some size
known_to m xs size h = grind (arith, nat_tests)

-- bytes ys that are as xs as far as a frame of n bytes goes say the same size
pub same_size : (k : Kind) (xs ys : List ℕ) (n : ℕ) → size_of k xs ≡ Some n
    → ((m : ℕ) → m ≤ length xs → m ≤ n → m ≤ length ys)
    → ((i : ℕ) → i < length xs → i < n → get_or ys i 0 ≡ get_or xs i 0)
    → size_of k ys ≡ Some n
same_size Message xs ys n e long same =
    let h = known_from 4 xs _ n e in
    known_to 4 ys _ (long 4 h.0 (omega arith)) ∙ ap Some (omega (arith, same 2 (omega arith) (omega arith), same 3 (omega arith) (omega arith)))
same_size Session xs ys n e long same = e
same_size Tick xs ys n e long same = e
same_size PolicyText xs ys n e long same =
    let h = known_from 5 xs _ n e in
    known_to 5 ys _ (long 5 h.0 (omega arith)) ∙ ap Some (omega (arith, same 1 (omega arith) (omega arith), same 2 (omega arith) (omega arith), same 3 (omega arith) (omega arith), same 4 (omega arith) (omega arith)))
same_size Settings xs ys n e long same =
    let h = known_from 2 xs _ n e in
    known_to 2 ys _ (long 2 h.0 (omega arith)) ∙ ap Some (omega (arith, same 1 (omega arith) (omega arith)))

-- more bytes behind do not change it
pub size_append : (k : Kind) (xs ys : List ℕ) (n : ℕ) → size_of k xs ≡ Some n → size_of k (xs ++ ys) ≡ Some n
size_append k xs ys n e = same_size k xs (xs ++ ys) n e (λ m h _. simp length-append (omega arith)) (λ i h _. get_or_append_left xs ys 0 i h)

-- the frame alone says it
pub size_take : (k : Kind) (xs : List ℕ) (n : ℕ) → size_of k xs ≡ Some n → n ≤ length xs → size_of k (take n xs) ≡ Some (length (take n xs))
size_take k xs n e h =
    let long = length-take-le n xs h in
    same_size k xs (take n xs) n e (λ m _ l. omega arith) (λ i _ l. get_or-take n xs i 0 l) ∙ ap Some (omega arith)

-- a frame has one byte at least
pub size_some : (k : Kind) (xs : List ℕ) (n : ℕ) → size_of k xs ≡ Some n → 1 ≤ n
size_some Message xs n e = omega (arith, known_from 4 xs _ n e)
size_some Session xs n e = grind arith
size_some Tick xs n e = grind arith
size_some PolicyText xs n e = omega (arith, known_from 5 xs _ n e)
size_some Settings xs n e = omega (arith, known_from 2 xs _ n e)

known_later : (m : ℕ) (xs : List ℕ) (size : ℕ) → known_at m xs size ≡ None → length xs < m
known_later m xs size e = grind (arith, nat_tests)

-- five bytes tell the size of any frame
pub size_later : (k : Kind) (xs : List ℕ) → size_of k xs ≡ None → length xs < 5
size_later Message xs e = omega (arith, known_later 4 xs _ e)
size_later Session xs e = grind arith
size_later Tick xs e = grind arith
size_later PolicyText xs e = omega (arith, known_later 5 xs _ e)
size_later Settings xs e = omega (arith, known_later 2 xs _ e)
