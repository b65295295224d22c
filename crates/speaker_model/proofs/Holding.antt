-- What peers hold by the frames that were sent, and by the model's events. Assumes nothing.
use Rattle.std.proofs.Common.{◌≡◌, ℕ, ◌<◌, Bool, true, false, cond, ◌&&◌, eqb, List, [], ◌∷◌, ◌++◌, Some, None, Option, sym, refl, ap, ◌∙◌, subst, append_assoc, append-nil, arith}
use Rattle.message.specs.Header.{kind_of}
use Rattle.message.specs.declared.Kind.TheVariants as a_kind
use Rattle.message_write.specs.Written.{keepalive_bytes, notification_bytes, open_bytes}
use Rattle.model.proofs.Equality.{option_same}
use Rattle.model.proofs.Ordering.{All, ToUp, updates_to_up}
use Rattle.model.proofs.Telling.{held_append, Fresh, updates_fresh}
use Rattle.model.specs.Model.{Size, Event, Now, step, after, intended_in, begins, history, holds, sent}
use Rattle.model.specs.Rows.{then_all, sent_all}
use Rattle.model.specs.Updates.{Update, Held, Sent, Begins, Tells, tells, follows, held_after}
use Rattle.model.specs.Updates as model
use Rattle.outbox.specs.Frames.{Frame, Carries, Closes, update_frame, update_frames}
use Rattle.route.specs.Route.{Route}
use Rattle.route.specs.Same.{same_option}
use Rattle.selection.specs.Intended.{Rules}
use Rattle.std.proofs.lemmas.Bool.{both_ways}
use Rattle.std.proofs.lemmas.Bool.Decides.{nat_tests as tests}

-- what is known of a hearer of frames: `hear` says what each peer holds after frames, and P which updates are heard as they are meant
pub record Hears (own hop : ℕ) (hear : List Frame → Held) (P : Update → Type 0) : Type 0 where
  pub told : (fs : List Frame) (u : Update) → P u → (j p : ℕ) → hear (fs ++ (update_frame hop u ∷ [])) j p ≡ follows (Tells u) (hear fs) j p
  pub opened : (fs : List Frame) (i j p : ℕ) → hear (fs ++ (Carries i (open_bytes own hop) ∷ [])) j p ≡ cond (eqb j i) None (hear fs j p)
  pub keepalive : (fs : List Frame) (i j p : ℕ) → hear (fs ++ (Carries i keepalive_bytes ∷ [])) j p ≡ hear fs j p
  pub notification : (fs : List Frame) (k i j p : ℕ) → hear (fs ++ (Carries i (notification_bytes k) ∷ [])) j p ≡ hear fs j p
  pub closed : (fs : List Frame) (i j p : ℕ) → hear (fs ++ (Closes i ∷ [])) j p ≡ hear fs j p
  pub keepalive_kind : kind_of keepalive_bytes ≡ Some a_kind.Update → ⊥
  pub notification_kind : (k : ℕ) → kind_of (notification_bytes k) ≡ Some a_kind.Update → ⊥
  pub open_kind : kind_of (open_bytes own hop) ≡ Some a_kind.Update → ⊥

-- what one peer holds depends on what it held
pub held_agree : (a e : Held) (j : ℕ) → ((p : ℕ) → a j p ≡ e j p) → (ss : List Sent) (p : ℕ) → held_after a ss j p ≡ held_after e ss j p
unfolding held_after
held_agree a e j h [] p = h p
held_agree a e j h (Begins i ∷ ss) p = held_agree (follows (Begins i) a) (follows (Begins i) e) j (λ q. ap (cond (eqb j i) None) (h q)) ss p
held_agree a e j h (Tells u ∷ ss) p = held_agree (follows (Tells u) a) (follows (Tells u) e) j (λ q. ap (cond (eqb j u.peer && eqb q u.prefix) u.route) (h q)) ss p

held_none : (a : Held) (j p : ℕ) → held_after a [] j p ≡ a j p
unfolding held_after
held_none a j p = refl

-- who isn't told holds what it held
not_told : (up : ℕ → Bool) (n : ℕ) (us : List Update) → All (ToUp up n) us → (j : ℕ) → up j ≡ false → (a : Held) (p : ℕ) → held_after a (tells us) j p ≡ a j p
unfolding All held_after tells
not_told up n [] all j h a p = refl
not_told up n (u ∷ us) all j h a p = not_told up n us all.1 j h (follows (Tells u) a) p ∙ other (eqb p u.prefix) u.route (a j p) (λ e. both_ways (up j) h (ap up e ∙ all.0.1))
  where
    other : (b : Bool) (x y : Option Route) → (j ≡ u.peer → ⊥) → cond (eqb j u.peer && b) x y ≡ y
    other b x y ne = grind (arith, tests)

frames_append : (hop : ℕ) (us vs : List Update) → update_frames hop (us ++ vs) ≡ update_frames hop us ++ update_frames hop vs
unfolding update_frames
frames_append hop [] vs = refl
frames_append hop (u ∷ us) vs = ap (λ l. update_frame hop u ∷ l) (frames_append hop us vs)

all_parts : (P : Update → Type 0) (us vs : List Update) → All P (us ++ vs) → All P us × All P vs
unfolding All
all_parts P [] vs a = (tt, a)
all_parts P (u ∷ us) vs a = let rest = all_parts P us vs a.1 in ((a.0, rest.0), rest.1)

module _ (z : Size) (rules : Rules) where
  -- what is held as an event's updates go out
  abbrev pub before : Event → List Event → Held
  before e es = held_after (holds z rules es) (begins e)

  before_is : (e : Event) (es : List Event) → held_after model.nothing (history z rules es ++ begins e) ≡ before e es
  before_is e es = held_append model.nothing (history z rules es) (begins e)

  holds_after : (e : Event) (es : List Event) → holds z rules (e ∷ es) ≡ held_after (before e es) (tells (sent z rules e es))
  unfolding history
  holds_after e es = held_append model.nothing (history z rules es) (begins e ++ tells (sent z rules e es)) ∙ held_append (holds z rules es) (begins e) (tells (sent z rules e es))

  sent_to_up : (e : Event) (es : List Event) → All (ToUp (after z rules (e ∷ es)).up z.peers) (sent z rules e es)
  sent_to_up e es = updates_to_up z.prefixes (after z rules (e ∷ es)).up (held_after model.nothing (history z rules es ++ begins e)) (intended_in z (after z rules (e ∷ es))) z.peers

  sent_fresh : (e : Event) (es : List Event) → Fresh (before e es) (tells (sent z rules e es))
  sent_fresh e es =
      subst (λ held. Fresh held (tells (sent z rules e es))) (before_is e es)
      (updates_fresh z.prefixes (after z rules (e ∷ es)).up (held_after model.nothing (history z rules es ++ begins e)) (intended_in z (after z rules (e ∷ es))) z.peers (held_after model.nothing (history z rules es ++ begins e)) (λ k q. refl))

  module _ (own hop : ℕ) (hear : List Frame → Held) (P : Update → Type 0) (hears : Hears own hop hear P) where
    -- an UPDATE tells its peer something that it did not hold
    abbrev pub TellsNew : List Frame → Frame → Type 0
    TellsNew front (Carries j m) = kind_of m ≡ Some a_kind.Update → (p : ℕ) × (hear (front ++ (Carries j m ∷ [])) j p ≡ hear front j p → ⊥)
    TellsNew front (Closes j) = Unit {0}

    unfoldable pub AllNew : List Frame → List Frame → Type 0
    AllNew front [] = Unit {0}
    AllNew front (f ∷ fs) = TellsNew front f × AllNew (front ++ (f ∷ [])) fs

    pub new_append : (front fs gs : List Frame) → AllNew front fs → AllNew (front ++ fs) gs → AllNew front (fs ++ gs)
    unfolding AllNew
    new_append front [] gs a e = subst (λ l. AllNew l gs) (append-nil front) e
    new_append front (f ∷ fs) gs a e = (a.0, new_append (front ++ (f ∷ [])) fs gs a.1 (subst (λ l. AllNew l gs) (sym (append_assoc front (f ∷ []) fs)) e))

    pub new_at : (front fs gs : List Frame) (f : Frame) → AllNew front (fs ++ (f ∷ gs)) → TellsNew (front ++ fs) f
    unfolding AllNew
    new_at front [] gs f a = subst (λ l. TellsNew l f) (sym (append-nil front)) a.0
    new_at front (e ∷ fs) gs f a = subst (λ l. TellsNew l f) (append_assoc front (e ∷ []) fs) (new_at (front ++ (e ∷ [])) fs gs f a.1)

    -- frames without an UPDATE
    abbrev pub NoUpdate : Frame → Type 0
    NoUpdate (Carries j m) = kind_of m ≡ Some a_kind.Update → ⊥
    NoUpdate (Closes j) = Unit {0}

    unfoldable pub NoUpdates : List Frame → Type 0
    NoUpdates [] = Unit {0}
    NoUpdates (f ∷ fs) = NoUpdate f × NoUpdates fs

    pub no_updates_append : (fs gs : List Frame) → NoUpdates fs → NoUpdates gs → NoUpdates (fs ++ gs)
    unfolding NoUpdates
    no_updates_append [] gs a e = e
    no_updates_append (f ∷ fs) gs a e = (a.0, no_updates_append fs gs a.1 e)

    no_update_new : (front : List Frame) (f : Frame) → NoUpdate f → TellsNew front f
    no_update_new front (Carries j m) no_update = λ is. absurd (no_update is)
    no_update_new front (Closes j) no_update = tt

    pub no_updates_new : (front fs : List Frame) → NoUpdates fs → AllNew front fs
    unfolding NoUpdates AllNew
    no_updates_new front [] a = tt
    no_updates_new front (f ∷ fs) a = (no_update_new front f a.0, no_updates_new (front ++ (f ∷ [])) fs a.1)

    -- a row of updates
    heard_all : (us : List Update) (fs : List Frame) → All P us → (j p : ℕ) → hear (fs ++ update_frames hop us) j p ≡ held_after (hear fs) (tells us) j p
    unfolding update_frames held_after tells All
    heard_all [] fs a j p = ap (λ l. hear l j p) (append-nil fs)
    heard_all (u ∷ us) fs a j p =
        let here : hear (fs ++ (update_frame hop u ∷ [])) ≡ follows (Tells u) (hear fs) = λ t k q. hears.told fs u a.0 k q t in
        ap (λ l. hear l j p) (sym (append_assoc fs (update_frame hop u ∷ []) (update_frames hop us))) ∙ heard_all us (fs ++ (update_frame hop u ∷ [])) a.1 j p ∙ ap (λ held. held_after held (tells us) j p) here

    updates_new : (us : List Update) (front : List Frame) (held : Held) (up : ℕ → Bool) → All (ToUp up z.peers) us → ((j p : ℕ) → j < z.peers → up j ≡ true → hear front j p ≡ held j p) → Fresh held (tells us) → All P us → AllNew front (update_frames hop us)
    unfolding update_frames tells All Fresh AllNew
    updates_new [] front held up to-up same fresh a = tt
    updates_new (u ∷ us) front held up to-up same fresh a =
        let j = u.peer in
        let p = u.prefix in
        let heard : hear (front ++ (update_frame hop u ∷ [])) j p ≡ u.route = hears.told front u a.0 j p ∙ at_place u.route (hear front j p) in
        let new : (hear (front ++ (update_frame hop u ∷ [])) j p ≡ hear front j p) → ⊥ =
        λ e.
        let is : held j p ≡ u.route = sym (same j p to-up.0.0 to-up.0.1) ∙ sym e ∙ heard in
        both_ways (same_option u.route (held j p)) fresh.0 (ap (same_option u.route) is ∙ option_same u.route) in
        (λ _. (p, new), updates_new us (front ++ (update_frame hop u ∷ [])) (follows (Tells u) held) up to-up.1 (λ k q l h. hears.told front u a.0 k q ∙ ap (cond (eqb k u.peer && eqb q u.prefix) u.route) (same k q l h)) fresh.1 a.1)
      where
        at_place : (x y : Option Route) → cond (eqb u.peer u.peer && eqb u.prefix u.prefix) x y ≡ x
        at_place x y = grind (arith, tests)

    -- by the frames each peer that is up holds what the model says
    abbrev pub Follows : List Frame → List Event → Type 0
    Follows fs es = (j p : ℕ) → j < z.peers → (after z rules es).up j ≡ true → hear fs j p ≡ holds z rules es j p

    -- so it is just before an event's updates go out, for each that is up then
    abbrev pub Ready : List Frame → Event → List Event → Type 0
    Ready fs e es = (j p : ℕ) → j < z.peers → (after z rules (e ∷ es)).up j ≡ true → hear fs j p ≡ before e es j p

    module _ (fs : List Frame) (e : Event) (es : List Event) (all : All P (sent z rules e es)) where
      event_follows : Ready fs e es → Follows (fs ++ update_frames hop (sent z rules e es)) (e ∷ es)
      event_follows ready j p l h = heard_all (sent z rules e es) fs all j p ∙ held_agree (hear fs) (before e es) j (λ q. ready j q l h) (tells (sent z rules e es)) p ∙ sym (ap (λ held. held j p) (holds_after e es))

      event_silent : (j : ℕ) → (after z rules (e ∷ es)).up j ≡ false → (p : ℕ) → hear (fs ++ update_frames hop (sent z rules e es)) j p ≡ hear fs j p
      event_silent j h p = heard_all (sent z rules e es) fs all j p ∙ not_told (after z rules (e ∷ es)).up z.peers (sent z rules e es) (sent_to_up e es) j h (hear fs) p

      event_new : Ready fs e es → AllNew fs (update_frames hop (sent z rules e es))
      event_new ready = updates_new (sent z rules e es) fs (before e es) (after z rules (e ∷ es)).up (sent_to_up e es) ready (sent_fresh e es) all

    -- a row of one event
    one_row : (e : Event) (es : List Event) → sent_all z rules (e ∷ []) es ≡ sent z rules e es
    unfolding sent_all
    one_row e es = append-nil (sent z rules e es)

    module _ (fs : List Frame) (e : Event) (es : List Event) (all : All P (sent_all z rules (e ∷ []) es)) where
      all_one : All P (sent z rules e es)
      all_one = subst (All P) (one_row e es) all

      pub one_follows : Ready fs e es → Follows (fs ++ update_frames hop (sent_all z rules (e ∷ []) es)) (then_all (e ∷ []) es)
      unfolding then_all
      one_follows ready = subst (λ us. Follows (fs ++ update_frames hop us) (e ∷ es)) (sym (one_row e es)) (event_follows fs e es all_one ready)

      pub one_silent : (j : ℕ) → (after z rules (e ∷ es)).up j ≡ false → (p : ℕ) → hear (fs ++ update_frames hop (sent_all z rules (e ∷ []) es)) j p ≡ hear fs j p
      one_silent j h p = ap (λ us. hear (fs ++ update_frames hop us) j p) (one_row e es) ∙ event_silent fs e es all_one j h p

      pub one_new : Ready fs e es → AllNew fs (update_frames hop (sent_all z rules (e ∷ []) es))
      one_new ready = subst (λ us. AllNew fs (update_frames hop us)) (sym (one_row e es)) (event_new fs e es all_one ready)

    -- a row of words: nobody's session comes up
    unfoldable pub Words : List Event → Type 0
    Words [] = Unit {0}
    Words (e ∷ row) = (begins e ≡ []) × ((s : Now) (j : ℕ) → (step z e s).up j ≡ true → s.up j ≡ true) × Words row

    pub record RowFollows (fs : List Frame) (row es : List Event) : Type 0 where
      pub follows_still : Follows (fs ++ update_frames hop (sent_all z rules row es)) (then_all row es)
      pub silent : (j : ℕ) → (after z rules es).up j ≡ false → (p : ℕ) → hear (fs ++ update_frames hop (sent_all z rules row es)) j p ≡ hear fs j p
      pub new : AllNew fs (update_frames hop (sent_all z rules row es))

    pub no_row : (fs : List Frame) (es : List Event) → Follows fs es → RowFollows fs [] es
    unfolding update_frames sent_all then_all AllNew
    no_row fs es follows = record {
      follows_still = subst (λ l. Follows l es) (sym (append-nil fs)) follows;
      silent = λ j h p. ap (λ l. hear l j p) (append-nil fs);
      new = tt;
    }

    false_before : (a e : Bool) → (a ≡ true → e ≡ true) → e ≡ false → a ≡ false
    false_before a e h no_way = grind (arith, tests)

    pub words_follow : (row es : List Event) (fs : List Frame) → Words row → All P (sent_all z rules row es) → Follows fs es → RowFollows fs row es
    unfolding Words sent_all then_all after
    words_follow [] es fs words all follows = no_row fs es follows
    words_follow (e ∷ row) es fs words all follows =
        let us = sent z rules e es in
        let rest = sent_all z rules row (e ∷ es) in
        let parts = all_parts P us rest all in
        let plain : (j p : ℕ) → before e es j p ≡ holds z rules es j p = λ j p. ap (λ b. held_after (holds z rules es) b j p) words.0 ∙ held_none (holds z rules es) j p in
        let ready : Ready fs e es = λ j p l h. follows j p l (words.1 (after z rules es) j h) ∙ sym (plain j p) in
        let more = words_follow row (e ∷ es) (fs ++ update_frames hop us) words.2 parts.1 (event_follows fs e es parts.0 ready) in
        let split : (fs ++ update_frames hop us) ++ update_frames hop rest ≡ fs ++ update_frames hop (us ++ rest) = append_assoc fs (update_frames hop us) (update_frames hop rest) ∙ ap (λ l. fs ++ l) (sym (frames_append hop us rest)) in
        record {
          follows_still = subst (λ l. Follows l (then_all row (e ∷ es))) split more.follows_still;
          silent = λ j h p.
              let still = false_before ((after z rules (e ∷ es)).up j) ((after z rules es).up j) (words.1 (after z rules es) j) h in
              ap (λ l. hear l j p) (sym split) ∙ more.silent j still p ∙ event_silent fs e es parts.0 j still p;
          new = subst (AllNew fs) (sym (frames_append hop us rest)) (new_append fs (update_frames hop us) (update_frames hop rest) (event_new fs e es parts.0 ready) more.new);
        }
