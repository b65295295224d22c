-- The sessions and the model's events go together. Assumes nothing.
use Rattle.std.proofs.Common.{◌≡◌, ℕ, zero, suc, ◌<◌, ◌≤◌, Bool, true, false, cond, not, ◌&&◌, eqb, ltb, List, [], ◌∷◌, sym, refl, ap, ◌∙◌, subst, ⊎_elim, arith}
use Rattle.attributes.specs.AsPath.{Reading, got, fault}
use Rattle.attributes.specs.Meaning.{Peer}
use Rattle.frame.specs.Frame.{Happening, message, up, tick, policy_text}
use Rattle.frame.specs.Frame as frame
use Rattle.frame.specs.Settings.{Exchange}
use Rattle.message.specs.Message.{Message, Opens, Updates, Notifies, KeepsAlive, read_message}
use Rattle.message.specs.declared.State.TheVariants as at
use Rattle.model.specs.Model.{Event, Establishes, GoDown, PutInForce, Now, all_down, step, after}
use Rattle.model.specs.Model as model
use Rattle.outbox.specs.Frames.{Frame, reaches_any}
use Rattle.policy_tables.specs.Texts.{Outcome, Read, Refused, meaning}
use Rattle.rib.specs.Received.{Received, most_peers}
use Rattle.server.proofs.Steps.{members_alike}
use Rattle.server.specs.Meant.{size_of, members_below}
use Rattle.session.specs.Session.{Session, down, is_down, is_established_in, is_established, is_open_sent_in, heard_now, sent_now, ticked, is_silent}
use Rattle.session.specs.declared.Phase.{Phase}
use Rattle.session.specs.declared.Phase.TheVariants.{Down, OpenSent, Established}
use Rattle.speaker_model.proofs.Runs.{runs, after_row, runs_none, runs_one, Apart, apart_same, elsewhere, right_there, down_apart, establishes_apart, goes_down}
use Rattle.speaker_model.proofs.Saying.{words_apart, all_said}
use Rattle.speaker_model.specs.Agree.{Agrees}
use Rattle.speaker_model.specs.Effects.{Effect, nothing, going_down, taken_down, awaited_effect, established_effect, phase_effect, message_effect, up_effect, loss_effect, text_row}
use Rattle.sessions.specs.Sessions.{silent_in, sessions_later}
use Rattle.speaker_model.specs.World.{World, count_of, size_in, rules_at_start, now_in, member_of, Step, no_step, peer_step, any_below, down_row, step_of, noted, frames_of, world_of, world_at_start, world_after}
use Rattle.std.proofs.lemmas.Bool.{cases_Bool, cases_eq, cond-true, cond-false, cond_both, or_parts, eq-eqb, ltb-true, both_ways}
use Rattle.std.proofs.lemmas.Bool.Decides.{nat_tests as tests}
use Rattle.update_events.specs.Words.{words, lacks_room}

-- what is noted of what was sent changes no phase
module _ (fs : List Frame) (sessions : ℕ → Session) (j : ℕ) where
  pub noted_phase : (noted fs sessions j).phase ≡ (sessions j).phase
  unfolding noted
  noted_phase = cond_both (reaches_any j fs) (sent_now (sessions j)) (sessions j) (λ s. s.phase ≡ (sessions j).phase) (λ _. refl) (λ _. refl)

  pub noted_down : sessions j ≡ down → noted fs sessions j ≡ down
  unfolding noted
  noted_down h = cond_both (reaches_any j fs) (sent_now (sessions j)) (sessions j) (λ s. s ≡ down) (λ _. ap sent_now h) (λ _. h)

module _ (n i : ℕ) (s : Now) where
  -- a row that takes the session of peer i down
  down_row_lem : runs (size_of n) (GoDown (i ∷ []) ∷ []) s ≡ model.down i s
  down_row_lem = runs_one (size_of n) (GoDown (i ∷ [])) s ∙ goes_down (size_of n) i s

  pub down_row_apart : Apart i s (runs (size_of n) (GoDown (i ∷ []) ∷ []) s)
  down_row_apart = subst (Apart i s) (sym down_row_lem) (down_apart i s)

  down_row_here : (runs (size_of n) (GoDown (i ∷ []) ∷ []) s).up i ≡ false
  down_row_here = ap (λ t. t.up i) down_row_lem ∙ right_there i false (s.up i)

  no_row_apart : Apart i s (runs (size_of n) [] s)
  no_row_apart = subst (Apart i s) (sym (runs_none (size_of n) s)) (apart_same i s)

  -- nobody else is touched
  awaited_apart : (session : Session) (r : Reading Message) → Apart i s (runs (size_of n) (awaited_effect i session r).row s)
  awaited_apart session (fault k) = down_row_apart
  awaited_apart session (got (Opens o)) = subst (Apart i s) (sym (runs_one (size_of n) (Establishes i) s)) (establishes_apart (size_of n) i s)
  awaited_apart session (got (Updates c)) = down_row_apart
  awaited_apart session (got (Notifies code subcode)) = down_row_apart
  awaited_apart session (got KeepsAlive) = down_row_apart

  established_apart : (received : Received) (m : List ℕ) (session : Session) (r : Reading Message) → Apart i s (runs (size_of n) (established_effect i received m session r).row s)
  established_apart received m session (fault k) = down_row_apart
  established_apart received m session (got (Opens o)) = down_row_apart
  established_apart received m session (got (Updates c)) =
      cond_both (lacks_room i c m received) (taken_down i 9) (record { session = heard_now session; first = []; row = words i c m }) (λ e. Apart i s (runs (size_of n) e.row s)) (λ _. down_row_apart) (λ _. words_apart i c m (size_of n) s)
  established_apart received m session (got (Notifies code subcode)) = down_row_apart
  established_apart received m session (got KeepsAlive) = no_row_apart

  phase_apart : (peer : Peer) (received : Received) (m : List ℕ) (session : Session) (phase : Phase) → Apart i s (runs (size_of n) (phase_effect peer i received m session phase).row s)
  phase_apart peer received m session Down = no_row_apart
  phase_apart peer received m session OpenSent = awaited_apart session (read_message at.OpenSent peer m)
  phase_apart peer received m session Established = established_apart received m session (read_message at.Established peer m)

  pub message_apart : (peer : Peer) (received : Received) (m : List ℕ) (session : Session) → Apart i s (runs (size_of n) (message_effect peer i received m session).row s)
  message_apart peer received m session = phase_apart peer received m session session.phase

  pub up_apart : (own address : ℕ) (session : Session) → Apart i s (runs (size_of n) (up_effect own address i session).row s)
  up_apart own address session = cond_both (is_down session) _ (nothing session) (λ e. Apart i s (runs (size_of n) e.row s)) (λ _. no_row_apart) (λ _. no_row_apart)

  pub loss_apart : (session : Session) → Apart i s (runs (size_of n) (loss_effect i session).row s)
  loss_apart session = cond_both (is_down session) (nothing session) (going_down i []) (λ e. Apart i s (runs (size_of n) e.row s)) (λ _. no_row_apart) (λ _. down_row_apart)

  -- the peer itself is up just where its session is established
  abbrev Here : Effect → Type 0
  Here e = (runs (size_of n) e.row s).up i ≡ is_established e.session

  no_row_here : (runs (size_of n) [] s).up i ≡ s.up i
  no_row_here = ap (λ t. t.up i) (runs_none (size_of n) s)

  awaited_here : (session : Session) → session.phase ≡ OpenSent → (r : Reading Message) → Here (awaited_effect i session r)
  awaited_here session is (fault k) = down_row_here
  awaited_here session is (got (Opens o)) =
      ap (λ t. t.up i) (runs_one (size_of n) (Establishes i) s) ∙ right_there i true (s.up i)
      ∙ sym (ap is_established (cond-true (is_open_sent_in session.phase) (record { phase = Established; heard = 0; sent = 0 }) session (ap is_open_sent_in is)))
  awaited_here session is (got (Updates c)) = down_row_here
  awaited_here session is (got (Notifies code subcode)) = down_row_here
  awaited_here session is (got KeepsAlive) = down_row_here

  module _ (there : i < n) (few : n ≤ most_peers) where
    established_here : (m : List ℕ) (session : Session) → session.phase ≡ Established → s.up i ≡ is_established session → (r : Reading Message) → Here (established_effect i s.received m session r)
    established_here m session is as-up (fault k) = down_row_here
    established_here m session is as-up (got (Opens o)) = down_row_here
    established_here m session is as-up (got (Updates c)) =
        cond_both (lacks_room i c m s.received) (taken_down i 9) (record { session = heard_now session; first = []; row = words i c m }) Here
        (λ _. down_row_here)
        (λ room. ap (λ t. t.up i) (all_said i c m n s there few (as-up ∙ ap is_established_in is) room) ∙ as-up)
    established_here m session is as-up (got (Notifies code subcode)) = down_row_here
    established_here m session is as-up (got KeepsAlive) = no_row_here ∙ as-up

    phase_here : (peer : Peer) (m : List ℕ) (session : Session) (phase : Phase) → session.phase ≡ phase → s.up i ≡ is_established session → Here (phase_effect peer i s.received m session phase)
    phase_here peer m session Down is as-up = no_row_here ∙ as-up
    phase_here peer m session OpenSent is as-up = awaited_here session is (read_message at.OpenSent peer m)
    phase_here peer m session Established is as-up = established_here m session is as-up (read_message at.Established peer m)

    message_here : (peer : Peer) (m : List ℕ) (session : Session) → s.up i ≡ is_established session → Here (message_effect peer i s.received m session)
    message_here peer m session as-up = phase_here peer m session session.phase refl as-up

  was_down : (session : Session) → is_down session ≡ true → is_established session ≡ false
  was_down session = by session.phase
    where
      by : (phase : Phase) → is_down (record { phase = phase; heard = 0; sent = 0 }) ≡ true → is_established_in phase ≡ false
      by Down h = refl
      by OpenSent h = absurd (both_ways false refl h)
      by Established h = absurd (both_ways false refl h)

  up_here : (own address : ℕ) (session : Session) → s.up i ≡ is_established session → Here (up_effect own address i session)
  up_here own address session as-up =
      cond_both (is_down session) _ (nothing session) Here
      (λ h. no_row_here ∙ as-up ∙ was_down session h ∙ sym (ap is_established (cond-true (is_down session) (record { phase = OpenSent; heard = 0; sent = 0 }) session h)))
      (λ _. no_row_here ∙ as-up)

  loss_here : (session : Session) → s.up i ≡ is_established session → Here (loss_effect i session)
  loss_here session as-up = cond_both (is_down session) (nothing session) (going_down i []) Here (λ _. no_row_here ∙ as-up) (λ _. down_row_here)

-- at a tick
pub ticked_phase : (s : Session) → (ticked s).phase ≡ s.phase
ticked_phase s = cond_both (is_down s) s _ (λ t. t.phase ≡ s.phase) (λ _. refl) (λ _. refl)

none_below : (n : ℕ) (set : ℕ → Bool) → any_below n set ≡ false → (j : ℕ) → j < n → set j ≡ false
unfolding any_below
none_below zero set h j l = absurd (omega arith)
none_below (suc n) set h j l =
    let parts = or_parts (any_below n set) (set n) h in
    ⊎_elim (λ e. ap set e ∙ parts.1) (λ ne. none_below n set parts.0 j (omega arith)) (cases_eq j n)

-- just the members of the set go down
module _ (n : ℕ) (set : ℕ → Bool) (s : Now) where
  pub down_row_up : (j : ℕ) → j < n → (runs (size_of n) (down_row n set) s).up j ≡ (s.up j && not (set j))
  down_row_up j l =
      ⊎_elim
      (λ h. ap (λ row. (runs (size_of n) row s).up j) (cond-true (any_below n set) _ [] h) ∙ ap (λ t. t.up j) (runs_one (size_of n) (GoDown (members_below n set)) s) ∙ sym ((members_alike s set n).up j l))
      (λ h. ap (λ row. (runs (size_of n) row s).up j) (cond-false (any_below n set) _ [] h) ∙ ap (λ t. t.up j) (runs_none (size_of n) s) ∙ still (s.up j) (set j) (none_below n set h j l))
      (cases_Bool (any_below n set))
    where
      still : (b c : Bool) → c ≡ false → b ≡ (b && not c)
      still b c h = grind (arith, tests)

later_up : (sessions : ℕ → Session) (j : ℕ) → (is_established (sessions j) && not (silent_in sessions j)) ≡ is_established (sessions_later sessions j)
unfolding sessions_later
later_up sessions j =
    cond_both (silent_in sessions j) down (ticked (sessions j)) (λ s. (is_established (sessions j) && not (silent_in sessions j)) ≡ is_established s)
    (λ h. gone (is_established (sessions j)) (silent_in sessions j) h)
    (λ h. kept (is_established (sessions j)) (silent_in sessions j) h ∙ sym (ap is_established_in (ticked_phase (sessions j))))
  where
    gone : (b c : Bool) → c ≡ true → (b && not c) ≡ false
    gone b c h = grind (arith, tests)

    kept : (b c : Bool) → c ≡ false → (b && not c) ≡ b
    kept b c h = grind (arith, tests)

later_down : (sessions : ℕ → Session) (j : ℕ) → sessions j ≡ down → sessions_later sessions j ≡ down
unfolding sessions_later silent_in
later_down sessions j h = ap (λ s. cond (is_silent (ticked s)) down (ticked s)) h

-- the sessions after a step and its row of events go together
pub record StepAgrees (x : Exchange) (w : World) (step : Step) : Type 0 where
  pub up : (i : ℕ) → i < count_of x → (runs (size_in x) step.row (now_in x w)).up i ≡ is_established (step.sessions i)
  pub outside : (i : ℕ) → count_of x ≤ i → step.sessions i ≡ down

module _ (x : Exchange) (few : count_of x ≤ most_peers) (w : World) (agrees : Agrees x w) where
  abbrev now : Now
  now = now_in x w

  peer_agrees : (i : ℕ) (e : Effect) → Apart i now (runs (size_in x) e.row now) → (i < count_of x → (runs (size_in x) e.row now).up i ≡ is_established e.session) → (count_of x ≤ i → e.session ≡ down) → StepAgrees x w (peer_step i e w.sessions)
  peer_agrees i e apart here past = record {
    up = λ j l.
        ⊎_elim
        (λ same. ap (λ k. (runs (size_in x) e.row now).up k) same ∙ here (subst (λ k. k < count_of x) same l) ∙ sym (ap is_established (cond-true (eqb j i) e.session (w.sessions j) (eq-eqb j i same))))
        (λ other. apart.up j other ∙ agrees.up j l ∙ sym (ap is_established (elsewhere i e.session j (w.sessions j) other)))
        (cases_eq j i);
    outside = λ j l.
        ⊎_elim
        (λ same. cond-true (eqb j i) e.session (w.sessions j) (eq-eqb j i same) ∙ past (subst (λ k. count_of x ≤ k) same l))
        (λ other. elsewhere i e.session j (w.sessions j) other ∙ agrees.outside j l)
        (cases_eq j i);
  }

  no_step_agrees : StepAgrees x w (no_step w.sessions)
  no_step_agrees = record { up = λ j l. no_row_here (count_of x) j now ∙ agrees.up j l; outside = agrees.outside }

  text_agrees : (o : Outcome) → StepAgrees x w (record { sessions = w.sessions; first = []; row = text_row o })
  text_agrees (Read content) = record { up = λ j l. ap (λ t. t.up j) (runs_one (size_in x) _ now) ∙ agrees.up j l; outside = agrees.outside }
  text_agrees (Refused at awaited) = record { up = λ j l. no_row_here (count_of x) j now ∙ agrees.up j l; outside = agrees.outside }

  pub step_agrees : (h : Happening) → StepAgrees x w (step_of x h w)
  step_agrees (message i m) =
      peer_agrees i (message_effect (member_of x i) i now.received m (w.sessions i)) (message_apart (count_of x) i now (member_of x i) now.received m (w.sessions i))
      (λ l. message_here (count_of x) i now l few (member_of x i) m (w.sessions i) (agrees.up i l))
      (λ l. ap (λ s. (message_effect (member_of x i) i now.received m s).session) (agrees.outside i l))
  step_agrees (up i) =
      cond_both (ltb i (count_of x)) (peer_step i (up_effect x.asn x.address i (w.sessions i)) w.sessions) (no_step w.sessions) (StepAgrees x w)
      (λ t.
      peer_agrees i (up_effect x.asn x.address i (w.sessions i)) (up_apart (count_of x) i now x.asn x.address (w.sessions i))
      (λ l. up_here (count_of x) i now x.asn x.address (w.sessions i) (agrees.up i l))
      (λ l. let below = ltb-true i (count_of x) t in absurd (omega arith)))
      (λ _. no_step_agrees)
  step_agrees (frame.down i) =
      peer_agrees i (loss_effect i (w.sessions i)) (loss_apart (count_of x) i now (w.sessions i))
      (λ l. loss_here (count_of x) i now (w.sessions i) (agrees.up i l))
      (λ l. ap (λ s. (loss_effect i s).session) (agrees.outside i l))
  step_agrees tick = record {
    up = λ j l. down_row_up (count_of x) (silent_in w.sessions) now j l ∙ ap (λ b. b && not (silent_in w.sessions j)) (agrees.up j l) ∙ later_up w.sessions j;
    outside = λ j l. later_down w.sessions j (agrees.outside j l);
  }
  step_agrees (policy_text t) = text_agrees (meaning (count_of x) t)

  pub world_agrees : (h : Happening) → Agrees x (world_of x h w)
  unfolding world_of
  world_agrees h =
      let does = step_agrees h in
      record {
        up = λ i l. ap (λ s. s.up i) (after_row (size_in x) (rules_at_start x) (step_of x h w).row w.events) ∙ does.up i l ∙ sym (ap is_established_in (noted_phase (frames_of x h w) (step_of x h w).sessions i));
        outside = λ i l. noted_down (frames_of x h w) (step_of x h w).sessions i (does.outside i l);
      }

start_agrees : (x : Exchange) → Agrees x world_at_start
unfolding after
start_agrees x = record { up = λ i l. refl; outside = λ i l. refl }

pub agree : (x : Exchange) → count_of x ≤ most_peers → (hs : List Happening) → Agrees x (world_after x hs)
unfolding world_after
agree x few [] = start_agrees x
agree x few (h ∷ hs) = world_agrees x few (world_after x hs) (agree x few hs) h
