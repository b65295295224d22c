-- Rows of events: none, one, and one row behind the other. Assumes nothing.
use Rattle.std.proofs.Common.{◌≡◌, List, [], ◌∷◌, ◌++◌, sym, refl, ap, ◌∙◌, subst, append_assoc, append-nil}
use Rattle.model.proofs.Chains.{none, join}
use Rattle.model.specs.Chain.{Chain}
use Rattle.model.specs.Model.{Size, Event, Now, sent}
use Rattle.model.specs.Rows.{then_all, sent_all, PromisedAll}
use Rattle.model.specs.Stands.{Stands, Promised}
use Rattle.model.specs.Updates.{Update}
use Rattle.selection.specs.Intended.{Rules}

pub then_join : (row more : List Event) (es : List Event) → then_all (row ++ more) es ≡ then_all more (then_all row es)
unfolding then_all
then_join [] more es = refl
then_join (e ∷ row) more es = then_join row more (e ∷ es)

pub sent_join : (z : Size) (rules : Rules) (row more es : List Event) → sent_all z rules (row ++ more) es ≡ sent_all z rules row es ++ sent_all z rules more (then_all row es)
unfolding then_all sent_all
sent_join z rules [] more es = refl
sent_join z rules (e ∷ row) more es = ap (λ l. sent z rules e es ++ l) (sent_join z rules row more (e ∷ es)) ∙ sym (append_assoc (sent z rules e es) (sent_all z rules row (e ∷ es)) (sent_all z rules more (then_all row (e ∷ es))))

module _ {S : Type 0} (R : S → Update → S → Type 0) (z : Size) where
  pub no_row : (s : Now) (from : S) → PromisedAll z [] s s R from from
  unfolding then_all sent_all
  no_row s from = record { keeps = λ rules es h. record { stands = h; sends = none R from } }

  pub row_join : (row more : List Event) (s t u : Now) (from mid to : S) → PromisedAll z row s t R from mid → PromisedAll z more t u R mid to → PromisedAll z (row ++ more) s u R from to
  row_join row more s t u from mid to before after = record {
    keeps = λ rules es h.
        let a = before.keeps rules es h in
        let b = after.keeps rules (then_all row es) a.stands in
        record {
          stands = subst (Stands z rules u) (sym (then_join row more es)) b.stands;
          sends = subst (λ l. Chain R from l to) (sym (sent_join z rules row more es)) (join R from mid to (sent_all z rules row es) (sent_all z rules more (then_all row es)) a.sends b.sends);
        };
  }

  pub one_event : (e : Event) (s t : Now) (from to : S) → Promised z e s t R from to → PromisedAll z (e ∷ []) s t R from to
  unfolding then_all sent_all
  one_event e s t from to p = record {
    keeps = λ rules es h.
        let a = p rules es h in
        record { stands = a.stands; sends = subst (λ l. Chain R from l to) (sym (append-nil (sent z rules e es))) a.sends };
  }
