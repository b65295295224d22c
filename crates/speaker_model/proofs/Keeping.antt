-- What is promised of each frame that comes in. Assumes nothing.
use Rattle.std.proofs.Common.{◌≡◌, ℕ, ◌<◌, ◌≤◌, true, false, cond, ◌&&◌, eqb, ltb, List, [], ◌++◌, Option, sym, refl, ap, ◌∙◌, subst, arith}
use Rattle.frame.specs.Frame.{Happening, message, up, tick, policy_text}
use Rattle.frame.specs.Frame as frame
use Rattle.frame.specs.Settings.{Exchange}
use Rattle.model.specs.Model.{Now}
use Rattle.model.specs.Rows.{then_all, sent_all}
use Rattle.outbox.specs.Frames.{update_frames, reaches_any}
use Rattle.policy_tables.specs.Texts.{Outcome, Refused, meaning}
use Rattle.prefix.specs.Prefix.{count}
use Rattle.rib.specs.Received.{most_peers}
use Rattle.route.specs.Route.{Route}
use Rattle.session.specs.Session.{Session, is_down_in, is_down, is_established_in, heard_now}
use Rattle.session.specs.declared.Phase.{Phase}
use Rattle.session.specs.declared.Phase.TheVariants.{Down, OpenSent, Established}
use Rattle.speaker_model.proofs.Agreeing.{noted_phase, message_apart, up_apart, loss_apart}
use Rattle.speaker_model.proofs.Runs.{runs, after_row, runs_none, Apart, apart_same, elsewhere, right_there}
use Rattle.speaker_model.proofs.Saying.{said, all_said}
use Rattle.speaker_model.specs.Agree.{Agrees}
use Rattle.speaker_model.specs.Effects.{Effect, nothing, taken_down, established_effect, phase_effect, message_effect, up_effect, loss_effect, text_row}
use Rattle.speaker_model.specs.Laws.{Taken, NoWordLost, is_of, Untouched, Unmoved, WorldLaws}
use Rattle.speaker_model.specs.World.{World, count_of, size_in, rules_at_start, now_in, member_of, no_step, peer_step, step_of, noted, keepalives_at, step_frames, frames_of, world_of}
use Rattle.std.proofs.lemmas.Bool.{cond-false, cond_both, eqb-true, both_ways}
use Rattle.std.proofs.lemmas.Bool.Decides.{nat_tests as tests}
use Rattle.update.specs.Update.{Content}
use Rattle.update_events.specs.Words.{words, lacks_room}

established_is : (phase : Phase) → is_established_in phase ≡ true → phase ≡ Established
established_is Down h = absurd (both_ways false refl h)
established_is OpenSent h = absurd (both_ways false refl h)
established_is Established h = refl

down_is : (phase : Phase) → is_down_in phase ≡ true → phase ≡ Down
down_is Down h = refl
down_is OpenSent h = absurd (both_ways false refl h)
down_is Established h = absurd (both_ways false refl h)

module _ (x : Exchange) (w : World) where
  abbrev now : Now
  now = now_in x w

  now_after : (h : Happening) → now_in x (world_of x h w) ≡ runs (size_in x) (step_of x h w).row now
  unfolding world_of
  now_after h = after_row (size_in x) (rules_at_start x) (step_of x h w).row w.events

  phase_after : (h : Happening) (j : ℕ) → ((world_of x h w).sessions j).phase ≡ ((step_of x h w).sessions j).phase
  unfolding world_of
  phase_after h j = noted_phase (frames_of x h w) (step_of x h w).sessions j

  -- an UPDATE that is taken
  module _ (few : count_of x ≤ most_peers) (agrees : Agrees x w) (i : ℕ) (m : List ℕ) (c : Content) (taken : Taken x w i m c) where
    abbrev heard : Effect
    heard = record { session = heard_now (w.sessions i); first = []; row = words i c m }

    effect_is : message_effect (member_of x i) i now.received m (w.sessions i) ≡ heard
    effect_is =
        ap (phase_effect (member_of x i) i now.received m (w.sessions i)) (established_is (w.sessions i).phase taken.established)
        ∙ ap (established_effect i now.received m (w.sessions i)) taken.says
        ∙ cond-false (lacks_room i c m now.received) (taken_down i 9) heard taken.room

    no_word_lost : NoWordLost x w i m c
    no_word_lost = record {
      still_up =
          ap is_established_in (phase_after (message i m) i ∙ ap (λ s. s.phase) (right_there i (message_effect (member_of x i) i now.received m (w.sessions i)).session (w.sessions i)) ∙ ap (λ e. e.session.phase) effect_is) ∙ taken.established;
      last = λ p l.
          ap (λ s. s.received i p) (now_after (message i m) ∙ ap (λ e. runs (size_in x) e.row now) effect_is ∙ all_said i c m (count_of x) now taken.known few (agrees.up i taken.known ∙ taken.established) taken.room)
          ∙ inside p (said i c m (count_of x) now p) (now.received i p) l;
    }
      where
        inside : (p : ℕ) (y z : Option Route) → p < count → cond (eqb i i && ltb p count) y z ≡ y
        inside p y z l = grind (arith, tests)

  -- a step of one peer
  module _ (i j : ℕ) (ne : j ≡ i → ⊥) where
    peer_untouched : (h : Happening) → Apart i now (runs (size_in x) (step_of x h w).row now) → ((step_of x h w).sessions j).phase ≡ (w.sessions j).phase → Untouched x w h j
    peer_untouched h apart same = record {
      received = λ p. ap (λ s. s.received j p) (now_after h) ∙ apart.received j p ne;
      up = ap (λ s. s.up j) (now_after h) ∙ apart.up j ne;
      phase = phase_after h j ∙ same;
    }

    other_phase : (e : Effect) → ((peer_step i e w.sessions).sessions j).phase ≡ (w.sessions j).phase
    other_phase e = ap (λ s. s.phase) (elsewhere i e.session j (w.sessions j) ne)

    message_untouched : (m : List ℕ) → Untouched x w (message i m) j
    message_untouched m = peer_untouched (message i m) (message_apart (count_of x) i now (member_of x i) now.received m (w.sessions i)) (other_phase (message_effect (member_of x i) i now.received m (w.sessions i)))

    loss_untouched : Untouched x w (frame.down i) j
    loss_untouched = peer_untouched (frame.down i) (loss_apart (count_of x) i now (w.sessions i)) (other_phase (loss_effect i (w.sessions i)))

    up_untouched : Untouched x w (up i) j
    up_untouched =
        let e = up_effect x.asn x.address i (w.sessions i) in
        peer_untouched (up i)
        (cond_both (ltb i (count_of x)) (peer_step i e w.sessions) (no_step w.sessions) (λ s. Apart i now (runs (size_in x) s.row now)) (λ _. up_apart (count_of x) i now x.asn x.address (w.sessions i)) (λ _. subst (Apart i now) (sym (runs_none (size_in x) now)) (apart_same i now)))
        (cond_both (ltb i (count_of x)) (peer_step i e w.sessions) (no_step w.sessions) (λ s. (s.sessions j).phase ≡ (w.sessions j).phase) (λ _. other_phase e) (λ _. refl))

  others_untouched : (i j : ℕ) (h : Happening) → is_of i h ≡ true → (j ≡ i → ⊥) → Untouched x w h j
  others_untouched i j (message k m) of ne = message_untouched k j (λ e. ne (e ∙ eqb-true k i of)) m
  others_untouched i j (up k) of ne = up_untouched k j (λ e. ne (e ∙ eqb-true k i of))
  others_untouched i j (frame.down k) of ne = loss_untouched k j (λ e. ne (e ∙ eqb-true k i of))
  others_untouched i j tick of ne = absurd (both_ways false refl of)
  others_untouched i j (policy_text t) of ne = absurd (both_ways false refl of)

  -- a step that does nothing
  module _ (h : Happening) (first : (step_of x h w).first ≡ []) (row : (step_of x h w).row ≡ []) (quiet : (s : ℕ → Session) (n : ℕ) → keepalives_at h s n ≡ []) (same : (i : ℕ) → (step_of x h w).sessions i ≡ w.sessions i) where
    no_frames : frames_of x h w ≡ []
    unfolding frames_of step_frames sent_all update_frames
    no_frames = λ t. (first t ++ update_frames x.address (sent_all (size_in x) (rules_at_start x) (row t) w.events)) ++ quiet (noted (step_frames x (step_of x h w) w.events) (step_of x h w).sessions) (count_of x) t

    not_noted : (sessions : ℕ → Session) (i : ℕ) → noted [] sessions i ≡ sessions i
    unfolding noted reaches_any
    not_noted sessions i = refl

    unmoved : Unmoved x w h
    unfolding world_of then_all
    unmoved = record {
      frames = no_frames;
      sessions = λ i. ap (λ fs. noted fs (step_of x h w).sessions i) no_frames ∙ not_noted (step_of x h w).sessions i ∙ same i;
      events = ap (λ es. then_all es w.events) row;
    }

  refused_text : (t : List ℕ) (o : Outcome) → meaning (count_of x) t ≡ o → text_row o ≡ [] → Unmoved x w (policy_text t)
  refused_text t o is none = unmoved (policy_text t) refl (ap text_row is ∙ none) (λ s n. refl) (λ i. refl)

  dropped : (i : ℕ) (m : List ℕ) → is_down (w.sessions i) ≡ true → Unmoved x w (message i m)
  dropped i m is_down =
      let is : message_effect (member_of x i) i now.received m (w.sessions i) ≡ nothing (w.sessions i) = ap (phase_effect (member_of x i) i now.received m (w.sessions i)) (down_is (w.sessions i).phase is_down) in
      unmoved (message i m) (ap (λ e. e.first) is) (ap (λ e. e.row) is) (λ s n. refl) (λ j. ap (λ e. (peer_step i e w.sessions).sessions j) is ∙ stays i j)
    where
      stays : (i j : ℕ) → cond (eqb j i) (w.sessions i) (w.sessions j) ≡ w.sessions j
      stays i j = cond_both (eqb j i) (w.sessions i) (w.sessions j) (λ s. s ≡ w.sessions j) (λ e. ap w.sessions (sym (eqb-true j i e))) (λ _. refl)

pub laws : (x : Exchange) (w : World) → count_of x ≤ most_peers → Agrees x w → WorldLaws x w
laws x w few agrees = record {
  no_word_lost = no_word_lost x w few agrees;
  others_untouched = others_untouched x w;
  refused_text = λ t at awaited is. refused_text x w t (Refused at awaited) is refl;
  dropped = dropped x w;
}
