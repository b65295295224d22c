-- Rows of flags. Assumes nothing.
use Rattle.std.proofs.Common.{◌≡◌, ℕ, Bool, false, cond, eqb, ltb, List, length, get_or, set, replicate, sym, ap, ◌∙◌, ⊎_elim, arith}
use lib.ListN.{length-replicate}
use Rattle.std.proofs.lemmas.List.{get_or_past, get_or-replicate, get_or-set_same, get_or-set_other, set_past}
use Rattle.std.proofs.lemmas.Bool.{cases_lt, cases_eq, lt-ltb, le-ltb}
use Rattle.std.proofs.lemmas.Bool.Decides.{nat_tests}

pub filled : (n : ℕ) (b : Bool) (i : ℕ) → get_or (replicate n b) i false ≡ cond (ltb i n) b false
filled n b i =
    ⊎_elim
    (λ h. get_or-replicate n i b false h ∙ ap (λ t. cond t b false) (sym (lt-ltb i n h)))
    (λ h. get_or_past (replicate n b) i false (omega (arith, length-replicate n b)) ∙ ap (λ t. cond t b false) (sym (le-ltb i n h)))
    (cases_lt i n)

pub written : (xs : List Bool) (k i : ℕ) (b : Bool) → get_or (set xs k b) i false ≡ cond (eqb i k) (cond (ltb k (length xs)) b false) (get_or xs i false)
written xs k i b =
    ⊎_elim
    (λ same. ⊎_elim
    (λ h. let here = get_or-set_same xs k b false h in let e = ap (λ j. get_or (set xs k b) j false) same in grind (arith, nat_tests))
    (λ h. let here = set_past xs k b h in let past = get_or_past xs i false (omega arith) in grind (arith, nat_tests))
    (cases_lt k (length xs)))
    (λ other. let there = get_or-set_other xs k i b false other in grind (arith, nat_tests))
    (cases_eq i k)
