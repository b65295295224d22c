-- Things that were done one after the other. Assumes nothing.
use Rattle.std.specs.Prelude.{◌≡◌, List, [], ◌∷◌}

-- from one state to another, by just these, in this order; R says what doing one does to the state
unfoldable pub Chain : {S A : Type 0} → (S → A → S → Type 0) → S → List A → S → Type 0
Chain R s [] t = s ≡ t
Chain {S} R s (u ∷ us) t = (v : S) × (R s u v × Chain R v us t)
