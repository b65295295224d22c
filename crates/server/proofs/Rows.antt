-- Updates where only one prefix, or only one peer, can have something new. Assumes nothing.
use Rattle.std.proofs.Common.{◌≡◌, ℕ, zero, suc, ◌<◌, Bool, true, cond, [], ◌++◌, Option, sym, refl, ap, ◌∙◌, ⊎_elim, append-nil, arith}
use Rattle.model.proofs.Equality.{option_same}
use Rattle.model.specs.Updates.{Held, tell_if, row, updates}
use Rattle.policy.specs.Policy.{Policy}
use Rattle.route.specs.Route.{Route}
use Rattle.route.specs.Same.{same_option}
use Rattle.selection.specs.Intended.{Candidate, exported_to}
use Rattle.std.proofs.lemmas.Bool.{cases_Bool, cases_eq, cond-true, cond-false}
use Rattle.telling.specs.Steps.{of_prefix}

-- nobody is told what it holds
nothing_new : (j p : ℕ) (old new : Option Route) → old ≡ new → tell_if j p old new ≡ []
nothing_new j p old new e = cond-true (same_option new old) [] _ (ap (same_option new) e ∙ option_same new)

row_none : (j : ℕ) (old new : ℕ → Option Route) (m : ℕ) → ((q : ℕ) → q < m → old q ≡ new q) → row j old new m ≡ []
unfolding row
row_none j old new zero h = refl
row_none j old new (suc m) h = λ i. row_none j old new m (λ q l. h q (omega arith)) i ++ nothing_new j m (old m) (new m) (h m (omega arith)) i

row_one : (j : ℕ) (old new : ℕ → Option Route) (m p : ℕ) → p < m → ((q : ℕ) → (q ≡ p → ⊥) → old q ≡ new q) → row j old new m ≡ tell_if j p (old p) (new p)
unfolding row
row_one j old new zero p l h = absurd (omega arith)
row_one j old new (suc m) p l h =
    ⊎_elim
    (λ e. ap (λ us. us ++ tell_if j m (old m) (new m)) (row_none j old new m (λ q k. h q (λ f. absurd (omega arith)))) ∙ ap (λ q. tell_if j q (old q) (new q)) e)
    (λ ne. ap (λ us. row j old new m ++ us) (nothing_new j m (old m) (new m) (h m ne)) ∙ append-nil (row j old new m) ∙ row_one j old new m p (omega arith) h)
    (cases_eq m p)

pub updates_none : (m : ℕ) (up : ℕ → Bool) (old new : Held) (n : ℕ) → ((j q : ℕ) → old j q ≡ new j q) → updates m up old new n ≡ []
unfolding updates
updates_none m up old new zero h = refl
updates_none m up old new (suc n) h =
    let here : cond (up n) (row n (old n) (new n) m) [] ≡ [] = ⊎_elim (λ u. cond-true (up n) _ [] u ∙ row_none n (old n) (new n) m (λ q l. h n q)) (λ u. cond-false (up n) _ [] u) (cases_Bool (up n)) in
    λ i. updates_none m up old new n h i ++ here i

-- of one prefix
pub updates_of_prefix : (m p : ℕ) (up : ℕ → Bool) (exports : ℕ → Policy) (was is : Option Candidate) (old new : Held) (n : ℕ) → p < m → ((j : ℕ) → old j p ≡ exported_to (exports j) j was) → ((j : ℕ) → new j p ≡ exported_to (exports j) j is) → ((j q : ℕ) → (q ≡ p → ⊥) → old j q ≡ new j q) → of_prefix p up exports was is n ≡ updates m up old new n
unfolding of_prefix updates
updates_of_prefix m p up exports was is old new zero l a e h = refl
updates_of_prefix m p up exports was is old new (suc n) l a e h =
    let told : tell_if n p (exported_to (exports n) n was) (exported_to (exports n) n is) ≡ row n (old n) (new n) m = (λ i. tell_if n p (sym (a n) i) (sym (e n) i)) ∙ sym (row_one n (old n) (new n) m p l (h n)) in
    λ i. updates_of_prefix m p up exports was is old new n l a e h i ++ cond (up n) (told i) []

-- to one peer
pub updates_to_peer : (m k : ℕ) (up : ℕ → Bool) (old new : Held) (n : ℕ) → k < n → up k ≡ true → ((j q : ℕ) → (j ≡ k → ⊥) → j < n → q < m → old j q ≡ new j q) → updates m up old new n ≡ row k (old k) (new k) m
unfolding updates
updates_to_peer m k up old new zero l u h = absurd (omega arith)
updates_to_peer m k up old new (suc n) l u h =
    ⊎_elim
    (λ e. ap (λ us. us ++ cond (up n) (row n (old n) (new n) m) []) (nobody_below n (λ j q b c. h j q (λ f. absurd (omega arith)) (omega arith) c)) ∙ cond-true (up n) _ [] (ap up e ∙ u) ∙ ap (λ j. row j (old j) (new j) m) e)
    (λ ne.
    let quiet : cond (up n) (row n (old n) (new n) m) [] ≡ [] = ⊎_elim (λ v. cond-true (up n) _ [] v ∙ row_none n (old n) (new n) m (λ q b. h n q ne (omega arith) b)) (λ v. cond-false (up n) _ [] v) (cases_Bool (up n)) in
    ap (λ us. updates m up old new n ++ us) quiet ∙ append-nil (updates m up old new n) ∙ updates_to_peer m k up old new n (omega arith) u (λ j q f b. h j q f (omega arith)))
    (cases_eq n k)
  where
    nobody_below : (n : ℕ) → ((j q : ℕ) → j < n → q < m → old j q ≡ new j q) → updates m up old new n ≡ []
    nobody_below zero g = refl
    nobody_below (suc n) g =
        let here : cond (up n) (row n (old n) (new n) m) [] ≡ [] = ⊎_elim (λ v. cond-true (up n) _ [] v ∙ row_none n (old n) (new n) m (λ q b. g n q (omega arith) b)) (λ v. cond-false (up n) _ [] v) (cases_Bool (up n)) in
        λ i. nobody_below n (λ j q b c. g j q (omega arith) c) i ++ here i
