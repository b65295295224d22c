-- What is left of a row, and what is written into it. Assumes nothing.
use Rattle.std.specs.Prelude.{◌≡◌, ℕ, ◌+◌, ◌<◌, ◌≤◌, List, [], ◌∷◌, ◌++◌, length, take, drop, slice_index_or, slice_set}

pub record RestSteps (X : Type 0) : Type 0 where
  pub next : (xs : List X) (i : ℕ) (x : X) → i < length xs → x ≡ slice_index_or xs i x → drop i xs ≡ x ∷ drop (i + 1) xs
  pub none : (xs : List X) → drop (length xs) xs ≡ []

pub record FillSteps (X : Type 0) : Type 0 where
  pub size : (xs : List X) (n : ℕ) → n ≤ length xs → length (take n xs) ≡ n
  pub more : (xs : List X) (n : ℕ) (x : X) → n < length xs → take (n + 1) (slice_set xs n x) ≡ take n xs ++ (x ∷ [])
