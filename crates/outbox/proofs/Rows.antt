-- Rows of updates and of frames. Assumes nothing.
use Rattle.std.proofs.Common.{◌≡◌, ℕ, Bool, true, false, ◌||◌, List, [], ◌∷◌, sym, refl, ap, ◌∙◌, subst}
use Rattle.model.proofs.Chains.{none, one, join}
use Rattle.model.specs.Chain.{Chain}
use Rattle.model.specs.Updates.{Update}
use Rattle.outbox.specs.Frames.{Frame, reaches, reaches_any, update_frames}
use Rattle.outbox.specs.Laws.{AllTellable, Told, PutOut, OutboxLaws}
use Rattle.outbox.specs.Outbox.{Box, box_of, Puts, SendsBy}
use Rattle.outbox.specs.declared.Outbox.{Outbox}

or_after : (a b c : Bool) → (b || (a || c)) ≡ ((a || b) || c)
or_after true true c = refl
or_after true false c = refl
or_after false true c = refl
or_after false false c = refl

module _ {O : Type 0} (W : O → List ℕ → O → Type 0) where
  told_frames : (s t : Outbox O) (us : List Update) → Chain (SendsBy W) s us t → Chain (Puts W) (box_of s) (update_frames s.address us) (box_of t)
  unfolding Chain update_frames
  told_frames s t [] c = ap box_of c
  told_frames s t (u ∷ us) c =
      let v = c.0 in
      let puts = c.1.0.puts in
      (box_of v, (puts, subst (λ a. Chain (Puts W) (box_of v) (update_frames a us) (box_of t)) puts.address (told_frames v t us c.1.1)))

  told_tellable : (s t : Outbox O) (us : List Update) → Chain (SendsBy W) s us t → AllTellable us
  unfolding Chain AllTellable
  told_tellable s t [] c = tt
  told_tellable s t (u ∷ us) c = (c.1.0.tellable, told_tellable c.0 t us c.1.1)

  pub told : (s t : Outbox O) (us : List Update) → Chain (SendsBy W) s us t → Told W (box_of s) us (box_of t)
  told s t us c = record { frames = told_frames s t us c; tellable = told_tellable s t us c }

  pub put_out : (s t : Box O) (fs : List Frame) → Chain (Puts W) s fs t → PutOut W s fs t
  unfolding Chain reaches_any
  put_out s t [] c = record { written = ap (λ (x : Box O). x.output) c; reached = λ j h. ap (λ (x : Box O). x.reached j) (sym c); own = ap (λ (x : Box O). x.own) (sym c); address = ap (λ (x : Box O). x.address) (sym c) }
  put_out s t (f ∷ fs) c =
      let v = c.0 in
      let first = c.1.0 in
      let rest = put_out v t fs c.1.1 in
      record {
        written = (v.output, (first.written, rest.written));
        reached = λ j h. rest.reached j h ∙ ap (λ b. reaches_any j fs || b) (first.reached j h) ∙ or_after (reaches j f) (reaches_any j fs) (s.reached j);
        own = rest.own ∙ first.own;
        address = rest.address ∙ first.address;
      }

  pub outbox_laws : OutboxLaws W
  outbox_laws = record { told = told; put_out = put_out; none = none (Puts W); one = one (Puts W); join = join (Puts W) }
