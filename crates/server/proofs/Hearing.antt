-- What is heard. Assumes nothing.
use Rattle.std.proofs.Common.{◌≡◌, ℕ, Bool, false, cond, None, refl, ap, subst}
use Rattle.rib.specs.Received.{Received, heard}
use Rattle.selection.proofs.Best.{same_selected}
use Rattle.selection.specs.Intended.{Rules}
use Rattle.server.specs.Facts.{SelectedHeard, SameSilence, nobody, everybody}
use Rattle.telling.specs.Steps.{intended_by}
use Rattle.model.specs.Chain.{Chain}
use Rattle.model.specs.Updates.{Update}
use Rattle.model.proofs.Lifting.{row_cong, updates_cong}
use Rattle.prefix.specs.Prefix.{count}
use Rattle.selection.specs.Intended.{exported}
use Rattle.std.proofs.lemmas.Bool.{cond-false}

pub all_heard : (silent : ℕ → Bool) (received : Received) → ((i : ℕ) → silent i ≡ false) → (i p : ℕ) → heard silent received i p ≡ received i p
all_heard silent received h i p = cond-false (silent i) None (received i p) (h i)

pub selected_heard : (rules : Rules) (silent : ℕ → Bool) (received : Received) (p n : ℕ) → SelectedHeard rules silent received p n
selected_heard rules silent received p n = record { same = λ h. same_selected rules (heard silent received) received p n (λ i. all_heard silent received h i p) }

pub intended_heard : (rules : Rules) (n : ℕ) (silent silent' : ℕ → Bool) (received : Received) → ((i : ℕ) → silent i ≡ silent' i) → (j p : ℕ) → intended_by rules n silent received j p ≡ intended_by rules n silent' received j p
unfolding intended_by
intended_heard rules n silent silent' received h j p = ap (exported rules j) (same_selected rules (heard silent received) (heard silent' received) p n (λ i. ap (λ b. cond b None (received i p)) (h i)))

pub same_silence : {S : Type 0} (R : S → Update → S → Type 0) (old new : Rules) (n : ℕ) (before after before' after' up : ℕ → Bool) (received : Received) (i : ℕ) → SameSilence R old new n before after before' after' up received i
unfolding nobody everybody
same_silence R old new n before after before' after' up received i = record {
  all = λ s t b a c. subst (λ us. Chain R s us t) (updates_cong count up up (intended_by old n before received) (intended_by old n before' received) (intended_by new n after received) (intended_by new n after' received) n (λ j h. refl) (λ j p h l u. intended_heard old n before before' received b j p) (λ j p h l. intended_heard new n after after' received a j p)) c;
  one = λ s t b a c. subst (λ us. Chain R s us t) (row_cong i (intended_by old n before received i) (intended_by old n before' received i) (intended_by new n after received i) (intended_by new n after' received i) count (λ p l. intended_heard old n before before' received b i p) (λ p l. intended_heard new n after after' received a i p)) c;
  nobody_is = λ j. refl;
  everybody_is = λ j. refl;
}
