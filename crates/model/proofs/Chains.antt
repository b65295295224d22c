-- Chains: none, one, and one behind the other. Assumes nothing.
use Rattle.std.proofs.Common.{List, [], ◌∷◌, ◌++◌, sym, refl, subst}
use Rattle.model.specs.Chain.{Chain}

module _ {S A : Type 0} (R : S → A → S → Type 0) where
  pub none : (s : S) → Chain R s [] s
  unfolding Chain
  none s = refl

  pub one : (s t : S) (u : A) → R s u t → Chain R s (u ∷ []) t
  unfolding Chain
  one s t u r = (t, (r, refl))

  pub join : (s t v : S) (us vs : List A) → Chain R s us t → Chain R t vs v → Chain R s (us ++ vs) v
  unfolding Chain
  join s t v [] vs a e = subst (λ w. Chain R w vs v) (sym a) e
  join s t v (u ∷ us) vs a e = (a.0, (a.1.0, join a.0 t v us vs a.1.1 e))
