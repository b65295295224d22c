-- A row of names, and one name more. Assumes nothing.
use Rattle.std.proofs.Common.{◌≡◌, ℕ, ◌+◌, List, [], ◌∷◌, ◌++◌, map, Some, cond, refl, ap, ◌∙◌}
use Rattle.std.proofs.lemmas.List.{map_push}
use Rattle.std.specs.Borrow.{Bor}
use Rattle.std.specs.List.{position_from}
use Rattle.std.specs.Str.{bytes_eq}

pub one_more : (xs ys : List (Bor (List ℕ))) (x : Bor (List ℕ)) → ys ≡ xs ++ (x ∷ []) → map (λ y. y.now) ys ≡ map (λ y. y.now) xs ++ (x.now ∷ [])
one_more xs ys x e = ap (map (λ y. y.now)) e ∙ map_push (λ y. y.now) xs x

pub meant_place : (name : List ℕ) (i : ℕ) (xs : List (Bor (List ℕ))) → position_from (λ x. bytes_eq name x.now) i xs ≡ position_from (λ x. bytes_eq name x) i (map (λ x. x.now) xs)
meant_place name i [] = refl
meant_place name i (x ∷ xs) = ap (cond (bytes_eq name x.now) (Some i)) (meant_place name (i + 1) xs)
