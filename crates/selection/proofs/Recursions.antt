-- The steps of the recursions. Assumes nothing.
use Rattle.std.proofs.Common.{◌≡◌, ℕ, zero, suc, ◌<◌, ◌≤◌, Bool, false, cond, None, sym, refl, ap, ◌∙◌, ⊎_elim, add-one, arith}
use Rattle.rib.specs.Received.{Received, heard}
use Rattle.selection.specs.Intended.{Rules, imported, or_better, selected}
use Rattle.selection.specs.Steps.{SelectSteps}
use Rattle.std.proofs.lemmas.Bool.{cases_lt, cond_both, cond-true}

nothing : (rules : Rules) (received : Received) (p n : ℕ) → received n p ≡ None → selected rules received p (suc n) ≡ selected rules received p n
unfolding selected
nothing rules received p n e = ap (λ x. or_better n (imported rules n x) (selected rules received p n)) e

skips : (rules : Rules) (received : Received) (p m n : ℕ) → m ≤ n → ((i : ℕ) → m ≤ i → i < n → received i p ≡ None) → selected rules received p n ≡ selected rules received p m
skips rules received p m zero h all = let e : m ≡ 0 = omega arith in ap (selected rules received p) (sym e)
skips rules received p m (suc n) h all =
    ⊎_elim
    (λ l. nothing rules received p n (all n (omega arith) (omega arith)) ∙ skips rules received p m n (omega arith) (λ i a b. all i a (omega arith)))
    (λ l. let e : suc n ≡ m = omega arith in ap (selected rules received p) e)
    (cases_lt m (suc n))

module _ (rules : Rules) (silent : ℕ → Bool) (received : Received) (p : ℕ) where
  counts : (n : ℕ) → silent n ≡ false → selected rules (heard silent received) p (suc n) ≡ or_better n (imported rules n (received n p)) (selected rules (heard silent received) p n)
  unfolding selected
  counts n e = ap (λ b. or_better n (imported rules n (cond b None (received n p))) (selected rules (heard silent received) p n)) e

  not_heard : (i : ℕ) → received i p ≡ None → heard silent received i p ≡ None
  not_heard i e = cond_both (silent i) None (received i p) (λ x. x ≡ None) (λ _. refl) (λ _. e)

  pub select_steps : (m n : ℕ) → SelectSteps rules silent received p m n
  unfolding selected
  select_steps m n = record {
    none = refl;
    more = λ e. rw add-one (counts n e);
    passes = λ e. rw add-one (nothing rules (heard silent received) p n (cond-true (silent n) None (received n p) e));
    skips = λ h quiet. skips rules (heard silent received) p m n h (λ i a b. not_heard i (quiet.none i a b));
  }
