-- What is left of a row, and what is written into it. Assumes nothing.
use Rattle.std.proofs.Common.{◌≡◌, ℕ, ◌+◌, ◌<◌, List, ◌∷◌, length, get_or, drop, sym, ap, ◌∙◌, arith}
use Rattle.std.proofs.lemmas.List.{drop_all, drop_more, length-take-le, take_more_set}
use Rattle.rows.specs.Rest.{FillSteps, RestSteps}

pub rest : {X : Type 0} (xs : List X) (i : ℕ) (x : X) → i < length xs → x ≡ get_or xs i x → drop i xs ≡ x ∷ drop (i + 1) xs
rest xs i x h e = drop_more xs i x h ∙ ap (λ y. y ∷ drop (i + 1) xs) (sym e)

pub rest_steps : (X : Type 0) → RestSteps X
rest_steps X = record { next = rest; none = λ xs. drop_all (length xs) xs (omega arith) }

pub fill_steps : (X : Type 0) → FillSteps X
fill_steps X = record { size = λ xs n. length-take-le n xs; more = λ xs n x. take_more_set xs n x }
