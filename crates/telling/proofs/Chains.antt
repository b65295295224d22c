-- Chains of updates. Assumes nothing.
use Rattle.std.proofs.Common.{◌≡◌, ℕ, zero, suc, ◌<◌, ◌≤◌, Bool, cond, List, [], ◌++◌, None, Option, sym, refl, ap, ◌∙◌, subst, ⊎_elim, append-nil, add-one, arith}
use Rattle.model.proofs.Chains.{none, one, join}
use Rattle.model.specs.Chain.{Chain}
use Rattle.model.specs.Updates.{Update, Held, tell_if, row, updates}
use Rattle.route.specs.Route.{Route}
use Rattle.route.specs.Same.{same_option}
use Rattle.policy.specs.Policy.{Policy}
use Rattle.rib.specs.Received.{Received, Unannounced, heard}
use Rattle.selection.specs.Intended.{Rules, Candidate, imported, or_better, selected, exported_to, exported, intended}
use Rattle.std.proofs.lemmas.Bool.{cond-true, cond-false, cond_both, cases_lt}
use Rattle.telling.specs.Steps.{of_prefix, intended_by, TellSteps, IfUpSteps, PeerSteps, RowSteps, UpdateSteps}

module _ {S : Type 0} (R : S → Update → S → Type 0) where
  pub tell_steps : (j p : ℕ) (old new : Option Route) → TellSteps R j p old new
  tell_steps j p old new = record {
    same = λ s h. subst (λ l. Chain R s l s) (sym (cond-true (same_option new old) [] _ h)) (none R s);
    other = λ s t h r. subst (λ l. Chain R s l t) (sym (cond-false (same_option new old) [] _ h)) (one R s t _ r);
  }

  pub if_up_steps : (up : Bool) (us : List Update) → IfUpSteps R up us
  if_up_steps up us = record {
    not_up = λ s h. subst (λ l. Chain R s l s) (sym (cond-false up us [] h)) (none R s);
    is_up = λ s t h r. subst (λ l. Chain R s l t) (sym (cond-true up us [] h)) r;
  }

  pub peer_steps : (p : ℕ) (up : ℕ → Bool) (exports : ℕ → Policy) (old new : Option Candidate) → PeerSteps R p up exports old new
  unfolding of_prefix
  peer_steps p up exports old new = record {
    none = none R;
    more = λ s t v n a e. subst (λ k. Chain R s (of_prefix p up exports old new k) v) (sym (add-one n)) (join R s t v (of_prefix p up exports old new n) (cond (up n) (tell_if n p (exported_to (exports n) n old) (exported_to (exports n) n new)) []) a e);
  }

-- nothing is intended of what nobody has announced
nothing_selected : (rules : Rules) (received : Received) (p n : ℕ) → ((i : ℕ) → received i p ≡ None) → selected rules received p n ≡ None
unfolding selected
nothing_selected rules received p zero h = refl
nothing_selected rules received p (suc n) h = ap (λ x. or_better n (imported rules n x) (selected rules received p n)) (h n) ∙ nothing_selected rules received p n h

pub nothing_intended : (rules : Rules) (n : ℕ) (received : Received) (j p : ℕ) → ((i : ℕ) → received i p ≡ None) → intended rules n received j p ≡ None
nothing_intended rules n received j p h = ap (exported rules j) (nothing_selected rules received p n h)

not_heard : (silent : ℕ → Bool) (received : Received) (i p : ℕ) → received i p ≡ None → heard silent received i p ≡ None
not_heard silent received i p e = cond_both (silent i) None (received i p) (λ x. x ≡ None) (λ _. refl) (λ _. e)

-- where nothing was and nothing is to be held nothing is told
pub row_skips : (j : ℕ) (old new : ℕ → Option Route) (a e : ℕ) → a ≤ e → ((p : ℕ) → a ≤ p → p < e → (old p ≡ None) × (new p ≡ None)) → row j old new e ≡ row j old new a
unfolding row
row_skips j old new a zero h same = let z : a ≡ 0 = omega arith in ap (row j old new) (sym z)
row_skips j old new a (suc e) h same =
    ⊎_elim
    (λ l.
    let both = same e (omega arith) (omega arith) in
    let quiet : tell_if j e (old e) (new e) ≡ [] = λ i. tell_if j e (both.0 i) (both.1 i) in
    ap (λ us. row j old new e ++ us) quiet ∙ append-nil (row j old new e) ∙ row_skips j old new a e (omega arith) (λ p b c. same p b (omega arith)))
    (λ l. let z : suc e ≡ a = omega arith in ap (row j old new) z)
    (cases_lt a (suc e))

module _ {S : Type 0} (R : S → Update → S → Type 0) (old new : Rules) (n : ℕ) (before after : ℕ → Bool) (received : Received) (j a e : ℕ) where
  by_nothing : (rules : Rules) (silent : ℕ → Bool) (p : ℕ) → ((i : ℕ) → received i p ≡ None) → intended_by rules n silent received j p ≡ None
  unfolding intended_by
  by_nothing rules silent p h = nothing_intended rules n (heard silent received) j p (λ i. not_heard silent received i p (h i))

  past : a ≤ e → Unannounced received a e → row j (intended_by old n before received j) (intended_by new n after received j) e ≡ row j (intended_by old n before received j) (intended_by new n after received j) a
  past h none = row_skips j (intended_by old n before received j) (intended_by new n after received j) a e h (λ p b c. (by_nothing old before p (λ i. none.none i p b c), by_nothing new after p (λ i. none.none i p b c)))

  pub row_steps : RowSteps R old new n before after received j a e
  unfolding row intended_by
  row_steps = record {
    none = none R;
    more = λ s t v h quiet b c. subst (λ k. Chain R s (row j (intended_by old n before received j) (intended_by new n after received j) k) v) (sym (add-one e)) (join R s t v (row j (intended_by old n before received j) (intended_by new n after received j) e) (tell_if j e (intended_by old n before received j e) (intended_by new n after received j e)) (subst (λ l. Chain R s l t) (sym (past h quiet)) b) c);
    skips = λ s t h quiet b. subst (λ l. Chain R s l t) (sym (past h quiet)) b;
  }

pub update_steps : {S : Type 0} (R : S → Update → S → Type 0) (up : ℕ → Bool) (old new : Held) (m n : ℕ) → UpdateSteps R up old new m n
unfolding updates
update_steps R up old new m n = record {
  none = none R;
  not_up = λ s t h b. subst (λ k. Chain R s (updates m up old new k) t) (sym (add-one n)) (join R s t t (updates m up old new n) (cond (up n) (row n (old n) (new n) m) []) b ((if_up_steps R (up n) (row n (old n) (new n) m)).not_up t h));
  is_up = λ s t v h b c. subst (λ k. Chain R s (updates m up old new k) v) (sym (add-one n)) (join R s t v (updates m up old new n) (cond (up n) (row n (old n) (new n) m) []) b ((if_up_steps R (up n) (row n (old n) (new n) m)).is_up t v h c));
}
