-- Types of attributes in a row with a place for each. Assumes nothing.
use Rattle.std.proofs.Common.{◌≡◌, ℕ, zero, suc, ◌<◌, Bool, true, false, ◌||◌, eqb, List, [], ◌∷◌, length, get_or, set, replicate, refl, arith}
use mathlib.Core.Path.{fun_ext}
use Rattle.std.proofs.lemmas.Bool.Decides.{nat_tests}
use Rattle.update.specs.Finding.{types_in, no_types, with_type}

get_or_false : (n t : ℕ) → get_or (replicate n false) t false ≡ false
get_or_false zero t = refl
get_or_false (suc n) zero = refl
get_or_false (suc n) (suc t) = get_or_false n t

get_or_more : (row : List Bool) (t u : ℕ) → t < length row → get_or (set row t true) u false ≡ (eqb t u || get_or row u false)
get_or_more [] t u h = absurd (omega arith)
get_or_more (b ∷ row) zero zero h = refl
get_or_more (b ∷ row) zero (suc u) h = grind (arith, nat_tests)
get_or_more (b ∷ row) (suc t) zero h = grind (arith, nat_tests)
get_or_more (b ∷ row) (suc t) (suc u) h = let more = get_or_more row t u in grind (arith, nat_tests)

pub none : types_in (replicate 256 false) ≡ no_types
unfolding types_in no_types
none = fun_ext (get_or_false 256)

pub at : (row : List Bool) (t : ℕ) → types_in row t ≡ get_or row t false
unfolding types_in
at row t = refl

pub more : (row : List Bool) (t : ℕ) → t < length row → types_in (set row t true) ≡ with_type t (types_in row)
unfolding types_in with_type
more row t h = fun_ext (λ u. get_or_more row t u h)

pub ruleset noting = (none, at, more)
