-- By the frames that went out each peer holds what the model says. Assumes nothing.
use Rattle.std.proofs.Common.{◌≡◌, ℕ, zero, suc, ◌<◌, Bool, true, false, cond, ◌&&◌, ◌||◌, eqb, ltb, leb, List, [], ◌∷◌, ◌++◌, Some, None, Option, sym, refl, ap, ◌∙◌, subst, ⊎_elim, append_assoc, append-nil, arith}
use Rattle.attributes.specs.AsPath.{Reading, got, fault}
use Rattle.frame.specs.Frame.{Happening, message, up, tick, policy_text}
use Rattle.frame.specs.Frame as frame
use Rattle.frame.specs.Settings.{Exchange}
use Rattle.message.specs.Message.{Message, Opens, Updates, Notifies, KeepsAlive, read_message}
use Rattle.message.specs.declared.State.TheVariants as at
use Rattle.message_write.specs.Written.{keepalive_bytes, notification_bytes, open_bytes}
use Rattle.model.proofs.Ordering.{All}
use Rattle.model.specs.Model.{Size, Event, Announces, Withdraws, Establishes, GoDown, PutInForce, Now, all_down, says, step, after, begins, holds}
use Rattle.model.specs.Model as model
use Rattle.model.specs.Rows.{then_all, sent_all}
use Rattle.model.specs.Updates.{Update, Held, held_after}
use Rattle.outbox.specs.Frames.{Frame, Carries, Closes, update_frames}
use Rattle.policy_tables.specs.Texts.{Outcome, Read, Refused, meaning}
use Rattle.rib.specs.Received.{updated, stored}
use Rattle.route.specs.Route.{Route}
use Rattle.session.specs.Session.{Session, down, is_down, is_established_in, is_established, is_open_sent_in, is_keepalive_due, opened, established, heard_now, ticked}
use Rattle.server.specs.Meant.{members_below}
use Rattle.session.specs.declared.Phase.{Phase}
use Rattle.session.specs.declared.Phase.TheVariants.{Down, OpenSent, Established}
use Rattle.speaker_model.proofs.Agreeing.{noted_phase, ticked_phase}
use Rattle.speaker_model.proofs.Holding.{Hears, before, AllNew, new_append, NoUpdates, no_updates_append, no_updates_new, Follows, Ready, one_follows, one_silent, one_new, Words, RowFollows, words_follow}
use Rattle.speaker_model.proofs.Runs.{Apart, elsewhere, establishes_apart}
use Rattle.speaker_model.specs.Agree.{Agrees}
use Rattle.speaker_model.specs.Effects.{Effect, nothing, going_down, fault_frames, taken_down, awaited_effect, established_effect, phase_effect, up_effect, text_row}
use Rattle.sessions.specs.Sessions.{silent_in, sessions_later}
use Rattle.speaker_model.specs.World.{World, count_of, size_in, rules_at_start, now_in, member_of, Step, no_step, peer_step, any_below, down_frames, tick_step, step_of, noted, keepalives, keepalives_at, step_frames, frames_of, world_of}
use Rattle.std.proofs.lemmas.Bool.{cases_eq, cond-true, cond_both, eq-eqb, both_ways}
use Rattle.std.proofs.lemmas.Bool.Decides.{nat_tests as tests}
use Rattle.update.specs.Update.{Content}
use Rattle.update_events.specs.Words.{is_withdrawn, is_announced, last_word, word_on, words_at, words_below, words, lacks_room}

-- what a peer says brings no session up, nor does the end of sessions
up_says : (z : Size) (i p : ℕ) (x : Option Route) (s : Now) (j : ℕ) → (says z i p x s).up j ≡ true → s.up j ≡ true
up_says z i p x s j =
    cond_both (ltb i z.peers && (ltb p z.prefixes && s.up i)) _ s (λ t. t.up j ≡ true → s.up j ≡ true)
    (λ _. cond_both (leb (stored z.peers z.prefixes (updated i p x s.received)) z.capacity) _ (model.down i s) (λ t. t.up j ≡ true → s.up j ≡ true) (λ _ h. h) (λ _ h. up_down (s.up j) h))
    (λ _ h. h)
  where
    up_down : (b : Bool) → cond (eqb j i) false b ≡ true → b ≡ true
    up_down b h = grind (arith, tests)

up_all_down : (is : List ℕ) (s : Now) (j : ℕ) → (all_down is s).up j ≡ true → s.up j ≡ true
unfolding all_down
up_all_down [] s j h = h
up_all_down (i ∷ is) s j h = up_all_down is s j (up_down ((all_down is s).up j) h)
  where
    up_down : (b : Bool) → cond (eqb j i) false b ≡ true → b ≡ true
    up_down b h = grind (arith, tests)

pub not_open_sent : (phase : Phase) → is_open_sent_in phase ≡ false → phase ≡ OpenSent → ⊥
not_open_sent phase h e = both_ways (is_open_sent_in phase) h (ap is_open_sent_in e)

later_phase : (sessions : ℕ → Session) (j : ℕ) → (sessions_later sessions j).phase ≡ OpenSent → (sessions j).phase ≡ OpenSent
unfolding sessions_later
later_phase sessions j =
    cond_both (silent_in sessions j) down (ticked (sessions j)) (λ s. s.phase ≡ OpenSent → (sessions j).phase ≡ OpenSent)
    (λ _ h. absurd (not_open_sent Down refl h))
    (λ _ h. sym (ticked_phase (sessions j)) ∙ h)

module _ (x : Exchange) (hear : List Frame → Held) (P : Update → Type 0) (hears : Hears x.asn x.address hear P) where
  abbrev z : Size
  z = size_in x

  -- frames that carry no UPDATE and after which all hold what they held
  record Quiet (fs : List Frame) : Type 0 where
    no_updates : NoUpdates z (rules_at_start x) x.asn x.address hear P hears fs
    same : (front : List Frame) (j p : ℕ) → hear (front ++ fs) j p ≡ hear front j p

  quiet_none : Quiet []
  unfolding NoUpdates
  quiet_none = record { no_updates = tt; same = λ front j p. ap (λ l. hear l j p) (append-nil front) }

  quiet_join : (fs gs : List Frame) → Quiet fs → Quiet gs → Quiet (fs ++ gs)
  quiet_join fs gs a e = record {
    no_updates = no_updates_append z (rules_at_start x) x.asn x.address hear P hears fs gs a.no_updates e.no_updates;
    same = λ front j p. ap (λ l. hear l j p) (sym (append_assoc front fs gs)) ∙ e.same (front ++ fs) j p ∙ a.same front j p;
  }

  quiet_keepalive : (i : ℕ) → Quiet (Carries i keepalive_bytes ∷ [])
  unfolding NoUpdates
  quiet_keepalive i = record { no_updates = (hears.keepalive_kind, tt); same = λ front j p. hears.keepalive front i j p }

  quiet_closes : (i : ℕ) → Quiet (Closes i ∷ [])
  unfolding NoUpdates
  quiet_closes i = record { no_updates = (tt, tt); same = λ front j p. hears.closed front i j p }

  quiet_notification : (i k : ℕ) → Quiet (Carries i (notification_bytes k) ∷ [])
  unfolding NoUpdates
  quiet_notification i k = record { no_updates = (hears.notification_kind k, tt); same = λ front j p. hears.notification front k i j p }

  quiet_fault : (i k : ℕ) → Quiet (fault_frames i k)
  quiet_fault i k = quiet_join (Carries i (notification_bytes k) ∷ []) (Closes i ∷ []) (quiet_notification i k) (quiet_closes i)

  quiet_down : (k : ℕ) (set : ℕ → Bool) (n : ℕ) → Quiet (down_frames k set n)
  unfolding down_frames
  quiet_down k set zero = quiet_none
  quiet_down k set (suc n) = quiet_join (down_frames k set n) (cond (set n) (fault_frames n k) []) (quiet_down k set n) (cond_both (set n) (fault_frames n k) [] Quiet (λ _. quiet_fault n k) (λ _. quiet_none))

  quiet_keepalives : (sessions : ℕ → Session) (n : ℕ) → Quiet (keepalives sessions n)
  unfolding keepalives
  quiet_keepalives sessions zero = quiet_none
  quiet_keepalives sessions (suc n) = quiet_join (keepalives sessions n) (cond (is_keepalive_due (sessions n)) (Carries n keepalive_bytes ∷ []) []) (quiet_keepalives sessions n) (cond_both (is_keepalive_due (sessions n)) (Carries n keepalive_bytes ∷ []) [] Quiet (λ _. quiet_keepalive n) (λ _. quiet_none))

  quiet_keepalives_at : (h : Happening) (sessions : ℕ → Session) (n : ℕ) → Quiet (keepalives_at h sessions n)
  quiet_keepalives_at (message i m) sessions n = quiet_none
  quiet_keepalives_at (up i) sessions n = quiet_none
  quiet_keepalives_at (frame.down i) sessions n = quiet_none
  quiet_keepalives_at tick sessions n = quiet_keepalives sessions n
  quiet_keepalives_at (policy_text t) sessions n = quiet_none

  -- rows of events that bring no session up
  abbrev Plain : List Event → Type 0
  Plain row = Words z (rules_at_start x) x.asn x.address hear P hears row

  plain_none : Plain []
  unfolding Words
  plain_none = tt

  plain_join : (row more : List Event) → Plain row → Plain more → Plain (row ++ more)
  unfolding Words
  plain_join [] more a e = e
  plain_join (f ∷ row) more a e = (a.0, a.1, plain_join row more a.2 e)

  plain_down : (is : List ℕ) → Plain (GoDown is ∷ [])
  unfolding Words
  plain_down is = (refl, λ s j h. up_all_down is s j h, tt)

  plain_text : (o : Outcome) → Plain (text_row o)
  unfolding Words
  plain_text (Read content) = (refl, λ s j h. h, tt)
  plain_text (Refused at awaited) = tt

  plain_word : (i p : ℕ) (y : Option Route) → Plain (word_on i p y ∷ [])
  unfolding Words
  plain_word i p None = (refl, λ s j h. up_says z i p None s j h, tt)
  plain_word i p (Some r) = (refl, λ s j h. up_says z i _ (Some r) s j h, tt)

  plain_words_at : (i : ℕ) (c : Content) (m : List ℕ) (p : ℕ) → Plain (words_at i c m p)
  unfolding words_at
  plain_words_at i c m p = cond_both (is_withdrawn m p || is_announced m p) (word_on i p (last_word c (is_announced m p) p) ∷ []) [] Plain (λ _. plain_word i p (last_word c (is_announced m p) p)) (λ _. plain_none)

  plain_words : (i : ℕ) (c : Content) (m : List ℕ) (k : ℕ) → Plain (words_below i c m k)
  unfolding words_below
  plain_words i c m zero = plain_none
  plain_words i c m (suc k) = plain_join (words_below i c m k) (words_at i c m k) (plain_words i c m k) (plain_words_at i c m k)

  -- each peer whose session is established holds what the model says, and one whose OPEN is awaited nothing
  pub record Heard (w : World) (fs : List Frame) : Type 0 where
    pub follows : Follows z (rules_at_start x) x.asn x.address hear P hears fs w.events
    pub awaited : (j p : ℕ) → j < count_of x → (w.sessions j).phase ≡ OpenSent → hear fs j p ≡ None

  module _ (w : World) (agrees : Agrees x w) (fs : List Frame) (heard : Heard w fs) where
    -- the same after a step
    record Goes (s : Step) : Type 0 where
      follows : Follows z (rules_at_start x) x.asn x.address hear P hears (fs ++ step_frames x s w.events) (then_all s.row w.events)
      awaited : (j p : ℕ) → j < count_of x → (s.sessions j).phase ≡ OpenSent → hear (fs ++ step_frames x s w.events) j p ≡ None
      new : AllNew z (rules_at_start x) x.asn x.address hear P hears fs (step_frames x s w.events)

    -- all that the step's events bring can be told
    abbrev Told : Step → Type 0
    Told s = All P (sent_all z (rules_at_start x) s.row w.events)

    -- of nobody an OPEN is awaited that wasn't before
    abbrev Back : Step → Type 0
    Back s = (j : ℕ) → j < count_of x → (s.sessions j).phase ≡ OpenSent → (w.sessions j).phase ≡ OpenSent

    not_up : (j : ℕ) → j < count_of x → (w.sessions j).phase ≡ OpenSent → (now_in x w).up j ≡ false
    not_up j l is = agrees.up j l ∙ ap is_established_in is

    -- the frames that go out first are quiet, and no session comes up
    plain_goes : (s : Step) → Quiet s.first → Plain s.row → Told s → Back s → Goes s
    unfolding step_frames
    plain_goes s quiet plain told back =
        let us = update_frames x.address (sent_all z (rules_at_start x) s.row w.events) in
        let front = fs ++ s.first in
        let row : RowFollows z (rules_at_start x) x.asn x.address hear P hears front s.row w.events =
        words_follow z (rules_at_start x) x.asn x.address hear P hears s.row w.events front plain told (λ j p l h. quiet.same fs j p ∙ heard.follows j p l h) in
        let split : front ++ us ≡ fs ++ (s.first ++ us) = append_assoc fs s.first us in
        record {
          follows = subst (λ l. Follows z (rules_at_start x) x.asn x.address hear P hears l (then_all s.row w.events)) split row.follows_still;
          awaited = λ j p l is. ap (λ l. hear l j p) (sym split) ∙ row.silent j (not_up j l (back j l is)) p ∙ quiet.same fs j p ∙ heard.awaited j p l (back j l is);
          new = new_append z (rules_at_start x) x.asn x.address hear P hears fs s.first us (no_updates_new z (rules_at_start x) x.asn x.address hear P hears fs s.first quiet.no_updates) row.new;
        }

    -- the session of peer i, whose OPEN was awaited, comes up
    module _ (i : ℕ) (session : Session) (was : (w.sessions i).phase ≡ OpenSent) (is : session.phase ≡ Established) where
      abbrev up_step : Step
      up_step = peer_step i (record { session = session; first = Carries i keepalive_bytes ∷ []; row = Establishes i ∷ [] }) w.sessions

      up_apart : Apart i (now_in x w) (after z (rules_at_start x) (Establishes i ∷ w.events))
      unfolding after
      up_apart = establishes_apart z i (now_in x w)

      begun : (j p : ℕ) → before z (rules_at_start x) (Establishes i) w.events j p ≡ cond (eqb j i) None (holds z (rules_at_start x) w.events j p)
      unfolding held_after
      begun j p = refl

      up_ready : Ready z (rules_at_start x) x.asn x.address hear P hears (fs ++ (Carries i keepalive_bytes ∷ [])) (Establishes i) w.events
      up_ready j p l h =
          hears.keepalive fs i j p ∙
          ⊎_elim
          (λ same. heard.awaited j p l (ap (λ k. (w.sessions k).phase) same ∙ was) ∙ sym (begun j p ∙ cond-true (eqb j i) None (holds z (rules_at_start x) w.events j p) (eq-eqb j i same)))
          (λ other. heard.follows j p l (sym (up_apart.up j other) ∙ h) ∙ sym (begun j p ∙ elsewhere i None j (holds z (rules_at_start x) w.events j p) other))
          (cases_eq j i)

      still_awaited : (j : ℕ) → (up_step.sessions j).phase ≡ OpenSent → (j ≡ i → ⊥) × ((w.sessions j).phase ≡ OpenSent)
      still_awaited j h =
          let other : (j ≡ i) → ⊥ = λ same. not_open_sent session.phase (ap is_open_sent_in is) (sym (ap (λ s. s.phase) (cond-true (eqb j i) session (w.sessions j) (eq-eqb j i same))) ∙ h) in
          (other, sym (ap (λ s. s.phase) (elsewhere i session j (w.sessions j) other)) ∙ h)

      up_goes : Told up_step → Goes up_step
      unfolding step_frames
      up_goes told =
          let us = update_frames x.address (sent_all z (rules_at_start x) (Establishes i ∷ []) w.events) in
          let first = Carries i keepalive_bytes ∷ [] in
          let split : (fs ++ first) ++ us ≡ fs ++ (first ++ us) = append_assoc fs first us in
          record {
            follows = subst (λ l. Follows z (rules_at_start x) x.asn x.address hear P hears l (then_all (Establishes i ∷ []) w.events)) split (one_follows z (rules_at_start x) x.asn x.address hear P hears (fs ++ first) (Establishes i) w.events told up_ready);
            awaited = λ j p l h.
                let before = still_awaited j h in
                ap (λ l. hear l j p) (sym split) ∙ one_silent z (rules_at_start x) x.asn x.address hear P hears (fs ++ first) (Establishes i) w.events told j (up_apart.up j before.0 ∙ not_up j l before.1) p ∙ hears.keepalive fs i j p ∙ heard.awaited j p l before.1;
            new = new_append z (rules_at_start x) x.asn x.address hear P hears fs first us (no_updates_new z (rules_at_start x) x.asn x.address hear P hears fs first (quiet_keepalive i).no_updates) (one_new z (rules_at_start x) x.asn x.address hear P hears (fs ++ first) (Establishes i) w.events told up_ready);
          }

    -- what happens to one peer
    module _ (i : ℕ) where
      peer_goes : (e : Effect) → Quiet e.first → Plain e.row → (e.session.phase ≡ OpenSent → (w.sessions i).phase ≡ OpenSent) → Told (peer_step i e w.sessions) → Goes (peer_step i e w.sessions)
      peer_goes e quiet plain back told =
          plain_goes (peer_step i e w.sessions) quiet plain told
          (λ j l h.
          ⊎_elim
          (λ same. ap (λ k. (w.sessions k).phase) same ∙ back (sym (ap (λ s. s.phase) (cond-true (eqb j i) e.session (w.sessions j) (eq-eqb j i same))) ∙ h))
          (λ other. sym (ap (λ s. s.phase) (elsewhere i e.session j (w.sessions j) other)) ∙ h)
          (cases_eq j i))

      down_goes : (first : List Frame) → Quiet first → Told (peer_step i (going_down i first) w.sessions) → Goes (peer_step i (going_down i first) w.sessions)
      down_goes first quiet told = peer_goes (going_down i first) quiet (plain_down (i ∷ [])) (λ h. absurd (not_open_sent Down refl h)) told

      fault_goes : (k : ℕ) → Told (peer_step i (taken_down i k) w.sessions) → Goes (peer_step i (taken_down i k) w.sessions)
      fault_goes k told = down_goes (fault_frames i k) (quiet_fault i k) told

      nothing_goes : Told (peer_step i (nothing (w.sessions i)) w.sessions) → Goes (peer_step i (nothing (w.sessions i)) w.sessions)
      nothing_goes told = peer_goes (nothing (w.sessions i)) quiet_none plain_none (λ h. h) told

      awaited_goes : (w.sessions i).phase ≡ OpenSent → (r : Reading Message) → Told (peer_step i (awaited_effect i (w.sessions i) r) w.sessions) → Goes (peer_step i (awaited_effect i (w.sessions i) r) w.sessions)
      awaited_goes was (fault k) told = fault_goes k told
      awaited_goes was (got (Opens o)) told = up_goes i (established (w.sessions i)) was (ap (λ s. s.phase) (cond-true (is_open_sent_in (w.sessions i).phase) (record { phase = Established; heard = 0; sent = 0 }) (w.sessions i) (ap is_open_sent_in was))) told
      awaited_goes was (got (Updates c)) told = fault_goes 3 told
      awaited_goes was (got (Notifies code subcode)) told = down_goes (Closes i ∷ []) (quiet_closes i) told
      awaited_goes was (got KeepsAlive) told = fault_goes 3 told

      established_goes : (m : List ℕ) (r : Reading Message) → Told (peer_step i (established_effect i (now_in x w).received m (w.sessions i) r) w.sessions) → Goes (peer_step i (established_effect i (now_in x w).received m (w.sessions i) r) w.sessions)
      established_goes m (fault k) = λ told. fault_goes k told
      established_goes m (got (Opens o)) = λ told. fault_goes 2 told
      established_goes m (got (Updates c)) =
          cond_both (lacks_room i c m (now_in x w).received) (taken_down i 9) (record { session = heard_now (w.sessions i); first = []; row = words i c m }) (λ e. Told (peer_step i e w.sessions) → Goes (peer_step i e w.sessions))
          (λ _ told. fault_goes 9 told)
          (λ _ told. peer_goes (record { session = heard_now (w.sessions i); first = []; row = words i c m }) quiet_none (plain_words i c m _) (λ h. h) told)
      established_goes m (got (Notifies code subcode)) = λ told. down_goes (Closes i ∷ []) (quiet_closes i) told
      established_goes m (got KeepsAlive) = λ told. peer_goes (nothing (heard_now (w.sessions i))) quiet_none plain_none (λ h. h) told

      phase_goes : (m : List ℕ) (phase : Phase) → (w.sessions i).phase ≡ phase → Told (peer_step i (phase_effect (member_of x i) i (now_in x w).received m (w.sessions i) phase) w.sessions) → Goes (peer_step i (phase_effect (member_of x i) i (now_in x w).received m (w.sessions i) phase) w.sessions)
      phase_goes m Down is told = nothing_goes told
      phase_goes m OpenSent is told = awaited_goes is (read_message at.OpenSent (member_of x i) m) told
      phase_goes m Established is told = established_goes m (read_message at.Established (member_of x i) m) told

      -- the server's OPEN begins a session with nothing
      abbrev open_step : Step
      open_step = peer_step i (record { session = opened (w.sessions i); first = Carries i (open_bytes x.asn x.address) ∷ []; row = [] }) w.sessions

      open_goes : is_down (w.sessions i) ≡ true → Goes open_step
      unfolding step_frames sent_all update_frames then_all NoUpdates
      open_goes was =
          let first = Carries i (open_bytes x.asn x.address) ∷ [] in
          record {
            follows = λ j p l h. ap (λ l. hear (fs ++ l) j p) (append-nil first) ∙ hears.opened fs i j p ∙ elsewhere i None j (hear fs j p) (λ same. both_ways ((now_in x w).up j) (agrees.up j l ∙ ap (λ k. is_established (w.sessions k)) same ∙ is_not (w.sessions i).phase was) h) ∙ heard.follows j p l h;
            awaited = λ j p l h.
                ap (λ l. hear (fs ++ l) j p) (append-nil first) ∙ hears.opened fs i j p ∙
                ⊎_elim
                (λ same. cond-true (eqb j i) None (hear fs j p) (eq-eqb j i same))
                (λ other. elsewhere i None j (hear fs j p) other ∙ heard.awaited j p l (sym (ap (λ s. s.phase) (elsewhere i (opened (w.sessions i)) j (w.sessions j) other)) ∙ h))
                (cases_eq j i);
            new = no_updates_new z (rules_at_start x) x.asn x.address hear P hears fs first (hears.open_kind, tt);
          }
        where
          is_not : (phase : Phase) → is_down (record { phase = phase; heard = 0; sent = 0 }) ≡ true → is_established_in phase ≡ false
          is_not Down h = refl
          is_not OpenSent h = absurd (both_ways false refl h)
          is_not Established h = absurd (both_ways false refl h)

    no_step_goes : Told (no_step w.sessions) → Goes (no_step w.sessions)
    no_step_goes told = plain_goes (no_step w.sessions) quiet_none plain_none told (λ j l h. h)

    step_goes : (h : Happening) → Told (step_of x h w) → Goes (step_of x h w)
    step_goes (message i m) = λ told. phase_goes i m (w.sessions i).phase refl told
    step_goes (up i) =
        cond_both (ltb i (count_of x)) (peer_step i (up_effect x.asn x.address i (w.sessions i)) w.sessions) (no_step w.sessions) (λ s. Told s → Goes s)
        (λ _. cond_both (is_down (w.sessions i)) _ (nothing (w.sessions i)) (λ e. Told (peer_step i e w.sessions) → Goes (peer_step i e w.sessions)) (λ was _. open_goes i was) (λ _ told. nothing_goes i told))
        (λ _ told. no_step_goes told)
    step_goes (frame.down i) =
        cond_both (is_down (w.sessions i)) (nothing (w.sessions i)) (going_down i []) (λ e. Told (peer_step i e w.sessions) → Goes (peer_step i e w.sessions)) (λ _ told. nothing_goes i told) (λ _ told. down_goes i [] quiet_none told)
    step_goes tick = λ told.
        plain_goes (tick_step (count_of x) w.sessions) (quiet_down 13 (silent_in w.sessions) (count_of x))
        (cond_both (any_below (count_of x) (silent_in w.sessions)) (GoDown (members_below (count_of x) (silent_in w.sessions)) ∷ []) [] Plain (λ _. plain_down (members_below (count_of x) (silent_in w.sessions))) (λ _. plain_none))
        told (λ j l h. later_phase w.sessions j h)
    step_goes (policy_text t) = λ told. plain_goes (step_of x (policy_text t) w) quiet_none (plain_text (meaning (count_of x) t)) told (λ j l h. h)

    -- all that went out, and the world after it
    pub record GoesOn (h : Happening) : Type 0 where
      pub heard_still : Heard (world_of x h w) (fs ++ frames_of x h w)
      pub new : AllNew z (rules_at_start x) x.asn x.address hear P hears fs (frames_of x h w)

    pub goes_on : (h : Happening) → Told (step_of x h w) → GoesOn h
    unfolding frames_of world_of
    goes_on h told =
        let goes = step_goes h told in
        let first = step_frames x (step_of x h w) w.events in
        let behind = keepalives_at h (noted first (step_of x h w).sessions) (count_of x) in
        let quiet = quiet_keepalives_at h (noted first (step_of x h w).sessions) (count_of x) in
        let same : (j p : ℕ) → hear (fs ++ (first ++ behind)) j p ≡ hear (fs ++ first) j p = λ j p. ap (λ l. hear l j p) (sym (append_assoc fs first behind)) ∙ quiet.same (fs ++ first) j p in
        record {
          heard_still = record {
            follows = λ j p l u. same j p ∙ goes.follows j p l u;
            awaited = λ j p l is. same j p ∙ goes.awaited j p l (sym (noted_phase (first ++ behind) (step_of x h w).sessions j) ∙ is);
          };
          new = new_append z (rules_at_start x) x.asn x.address hear P hears fs first behind goes.new (no_updates_new z (rules_at_start x) x.asn x.address hear P hears (fs ++ first) behind quiet.no_updates);
        }
