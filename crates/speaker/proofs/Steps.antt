-- From what the parts do to the steps that are taken. Assumes nothing.
use Rattle.std.proofs.Common.{◌≡◌, ℕ, zero, suc, ◌<◌, ◌≤◌, Bool, true, false, not, ◌&&◌, eqb, ltb, List, [], ◌∷◌, length, get_or, is_some, Some, None, MatchBool, sym, refl, ap, ◌∙◌, subst, ⊎_elim, append-nil, arith}
use Rattle.model.proofs.Chains.{none, one, join}
use Rattle.model.proofs.Rows.{no_row, one_event}
use Rattle.model.specs.Chain.{Chain}
use Rattle.model.specs.Model.{Event, Establishes, GoDown, at}
use Rattle.model.specs.Rows.{PromisedAll}
use Rattle.model.specs.Stands.{Promised}
use Rattle.outbox.proofs.Rows.{put_out}
use Rattle.outbox.specs.Frames.{Frame, Carries}
use Rattle.outbox.specs.Outbox.{box_of, Puts, SendsBy}
use Rattle.outbox.specs.declared.Outbox.{Outbox}
use Rattle.server.specs.Meant.{size_of, members_below}
use Rattle.session.specs.Session.{Session, down, opened, is_down, is_down_in, is_established_in}
use Rattle.session.specs.declared.Phase.TheVariants.{OpenSent}
use Rattle.speaker.specs.Serves.{with_outbox}
use Rattle.speaker.specs.State.{State, Level, Addressed, Takes}
use Rattle.frame.specs.Frame.{up}
use Rattle.message_write.specs.Written.{open_bytes}
use Rattle.speaker_model.specs.Effects.{Effect, going_down, loss_effect, nothing, up_effect}
use Rattle.speaker_model.specs.World.{Step, count_of, member_of, no_step, peer_step, step_by}
use Rattle.frame.specs.Settings.{Exchange, peer_of}
use Rattle.std.proofs.lemmas.List.{get_or_past}
use Rattle.std.proofs.lemmas.Bool.{cases_lt, cases_eq, cond-true, cond-false, cond_both, true≢false, eqb-true, and_from, lt-ltb, le-ltb, eq-eqb, ne_eqb, and_left, both_ways, not_from_false}

-- a number that no peer has is read as one of network 0
pub member_outside : (x : Exchange) (i : ℕ) → peer_of x i ≡ None → record { asn = 0; address = 0 } ≡ member_of x i
member_outside x i e =
    ⊎_elim
    (λ l. absurd (some_none _ (sym (cond-true (ltb i (length x.peers)) (Some (get_or x.peers i record { asn = 0; address = 0 })) None (lt-ltb i (length x.peers) l)) ∙ e)))
    (λ l. let past = get_or_past x.peers i (record { asn = 0; address = 0 }) l in sym (λ k. record { asn = (past k).asn; address = (past k).address }))
    (cases_lt i (length x.peers))
  where
    some_none : {A : Type 0} (a : A) → Some a ≡ None → ⊥
    some_none a h = true≢false (ap is_some h)

-- a session that is as it was
pub same_at : (i : ℕ) (f : ℕ → Session) (j : ℕ) → f j ≡ at i (f i) f j
same_at i f j = cond_both (eqb j i) (f i) (f j) (λ s. f j ≡ s) (λ e. ap f (eqb-true j i e)) (λ e. refl)

-- a set of one peer below n
none_below : (n : ℕ) (set : ℕ → Bool) → ((j : ℕ) → j < n → set j ≡ false) → members_below n set ≡ []
unfolding members_below
none_below zero set h = refl
none_below (suc n) set h = cond-false (set n) (n ∷ members_below n set) (members_below n set) (h n (omega arith)) ∙ none_below n set (λ j l. h j (omega arith))

only_one : (n i : ℕ) (set : ℕ → Bool) → i < n → set i ≡ true → ((j : ℕ) → (j ≡ i → ⊥) → set j ≡ false) → members_below n set ≡ i ∷ []
unfolding members_below
only_one zero i set h is others = absurd (omega arith)
only_one (suc n) i set h is others =
    ⊎_elim
    (λ here. cond-true (set n) (n ∷ members_below n set) (members_below n set) (ap set (sym here) ∙ is) ∙ (λ t. sym here t ∷ none_below n set (λ j l. others j (λ e. omega arith)) t))
    (λ other. cond-false (set n) (n ∷ members_below n set) (members_below n set) (others n (λ e. other (sym e))) ∙ only_one n i set (omega arith) is others)
    (cases_eq i n)

module _ {O : Type 0} (W : O → List ℕ → O → Type 0) where
  -- frames that go out before a step that has none
  pub before : (s t : State O) (mid : Outbox O) (sessions : ℕ → Session) (fs : List Frame) (row : List Event) → (Addressed s → Chain (Puts W) (box_of s.outbox) fs (box_of mid)) → Takes W (record { sessions = sessions; first = []; row = row }) (with_outbox mid s) t → Takes W (record { sessions = sessions; first = fs; row = row }) s t
  before s t mid sessions fs row goes rest =
      record {
        exchange = rest.exchange;
        peers = rest.peers;
        sessions = rest.sessions;
        middle = rest.middle;
        first = λ here.
            let out = put_out W (box_of s.outbox) (box_of mid) fs (goes here) in
            subst (λ l. Chain (Puts W) (box_of s.outbox) l (box_of rest.middle)) (append-nil fs) (join (Puts W) (box_of s.outbox) (box_of mid) (box_of rest.middle) fs [] (goes here) (rest.first (record { own = out.own ∙ here.own; address = out.address ∙ here.address })));
        row = λ level. rest.row (record { peers = level.peers; few = level.few; up = level.up; outside = level.outside });
      }

  -- a peer that has a session is one of the server's
  pub there : (s : State O) (i : ℕ) → Level s → is_down (s.sessions i) ≡ false → i < s.peers
  there s i level live = ⊎_elim (λ l. l) (λ l. absurd (both_ways (is_down (s.sessions i)) live (ap is_down (level.outside i l)))) (cases_lt i s.peers)

  -- the session of one peer goes down
  pub goes_down : (s t : State O) (i : ℕ) (set : ℕ → Bool) → t.exchange ≡ s.exchange → t.peers ≡ s.peers → ((j : ℕ) → t.sessions j ≡ at i down s.sessions j) → ((j : ℕ) → set j ≡ (eqb j i && ltb i 64)) → is_down (s.sessions i) ≡ false → Promised (size_of s.peers) (GoDown (members_below s.peers set)) s.now t.now (SendsBy W) s.outbox t.outbox → Takes W (record { sessions = at i down s.sessions; first = []; row = GoDown (i ∷ []) ∷ [] }) s t
  goes_down s t i set exchange peers sessions only live promised =
      record {
        exchange = exchange;
        peers = peers;
        sessions = sessions;
        middle = s.outbox;
        first = λ _. none (Puts W) (box_of s.outbox);
        row = λ level.
            let lt = there s i level live in
            let just = only_one s.peers i set lt (only i ∙ and_from (eqb i i) (ltb i 64) (eq-eqb i i refl) (lt-ltb i 64 (omega (arith, level.few)))) (λ j other. only j ∙ and_left (eqb j i) (ltb i 64) (ne_eqb j i other)) in
            one_event (SendsBy W) (size_of s.peers) (GoDown (i ∷ [])) s.now t.now s.outbox t.outbox (subst (λ is. Promised (size_of s.peers) (GoDown is) s.now t.now (SendsBy W) s.outbox t.outbox) just promised);
      }

  -- only the sessions change
  pub goes_on : (s t : State O) (sessions : ℕ → Session) → t.exchange ≡ s.exchange → t.peers ≡ s.peers → t.now ≡ s.now → t.outbox ≡ s.outbox → ((j : ℕ) → t.sessions j ≡ sessions j) → Takes W (record { sessions = sessions; first = []; row = [] }) s t
  goes_on s t sessions exchange peers now outbox same =
      record {
        exchange = exchange;
        peers = peers;
        sessions = same;
        middle = s.outbox;
        first = λ _. none (Puts W) (box_of s.outbox);
        row = λ level. subst (λ n. PromisedAll (size_of s.peers) [] s.now n (SendsBy W) s.outbox t.outbox) (sym now) (subst (λ o. PromisedAll (size_of s.peers) [] s.now s.now (SendsBy W) s.outbox o) (sym outbox) (no_row (SendsBy W) (size_of s.peers) s.now s.outbox));
      }

  -- the session of one peer comes up
  pub comes_up : (E : Type 0) (s t : State O) (i : ℕ) (v : Session) (r : Bool) → t.exchange ≡ s.exchange → t.peers ≡ s.peers → ((j : ℕ) → t.sessions j ≡ at i v s.sessions j) → (s.sessions i).phase ≡ OpenSent → r ≡ (ltb i s.peers && not (s.now.up i)) → MatchBool r (Promised (size_of s.peers) (Establishes i) s.now t.now (SendsBy W) s.outbox t.outbox) E → Takes W (record { sessions = at i v s.sessions; first = []; row = Establishes i ∷ [] }) s t
  comes_up E s t i v r exchange peers sessions awaited answer promised =
      record {
        exchange = exchange;
        peers = peers;
        sessions = sessions;
        middle = s.outbox;
        first = λ _. none (Puts W) (box_of s.outbox);
        row = λ level.
            let lt = there s i level (ap is_down_in awaited) in
            let up = answer ∙ and_from (ltb i s.peers) (not (s.now.up i)) (lt-ltb i s.peers lt) (not_from_false (s.now.up i) (level.up i lt ∙ ap is_established_in awaited)) in
            one_event (SendsBy W) (size_of s.peers) (Establishes i) s.now t.now s.outbox t.outbox (subst (λ b. MatchBool b (Promised (size_of s.peers) (Establishes i) s.now t.now (SendsBy W) s.outbox t.outbox) E) up promised);
      }

  -- sessions change, and then a row of events is taken
  pub goes_by : (s t : State O) (sessions : ℕ → Session) (row : List Event) → t.exchange ≡ s.exchange → t.peers ≡ s.peers → ((j : ℕ) → t.sessions j ≡ sessions j) → PromisedAll (size_of s.peers) row s.now t.now (SendsBy W) s.outbox t.outbox → Takes W (record { sessions = sessions; first = []; row = row }) s t
  goes_by s t sessions row exchange peers same promised =
      record {
        exchange = exchange;
        peers = peers;
        sessions = same;
        middle = s.outbox;
        first = λ _. none (Puts W) (box_of s.outbox);
        row = λ level. promised;
      }

  -- the connection to a peer that there isn't, or whose session isn't down
  pub up_unknown : (s : State O) (i : ℕ) → count_of s.exchange ≤ i → Takes W (step_by s.exchange s.now.received (up i) s.sessions) s s
  up_unknown s i past =
      subst (λ (e : Step). Takes W e s s) (sym (cond-false (ltb i (count_of s.exchange)) (peer_step i (up_effect s.exchange.asn s.exchange.address i (s.sessions i)) s.sessions) (no_step s.sessions) (le-ltb i (count_of s.exchange) past)))
      (goes_on s s s.sessions refl refl refl refl (λ j. refl))

  pub up_busy : (s : State O) (i : ℕ) → i < count_of s.exchange → is_down (s.sessions i) ≡ false → Takes W (step_by s.exchange s.now.received (up i) s.sessions) s s
  up_busy s i known busy =
      subst (λ (e : Step). Takes W e s s) (sym (cond-true (ltb i (count_of s.exchange)) (peer_step i (up_effect s.exchange.asn s.exchange.address i (s.sessions i)) s.sessions) (no_step s.sessions) (lt-ltb i (count_of s.exchange) known)))
      (subst (λ (e : Effect). Takes W (peer_step i e s.sessions) s s) (sym (cond-false (is_down (s.sessions i)) (record { session = opened (s.sessions i); first = Carries i (open_bytes s.exchange.asn s.exchange.address) ∷ []; row = [] }) (nothing (s.sessions i)) busy))
      (goes_on s s (at i (s.sessions i) s.sessions) refl refl refl refl (same_at i s.sessions)))

  -- the connection to a peer whose session is down: the server's OPEN goes out
  pub up_opens : (s t : State O) (i : ℕ) → i < count_of s.exchange → is_down (s.sessions i) ≡ true → t.exchange ≡ s.exchange → t.peers ≡ s.peers → t.now ≡ s.now → ((j : ℕ) → t.sessions j ≡ at i (opened (s.sessions i)) s.sessions j) → Puts W (box_of s.outbox) (Carries i (open_bytes s.outbox.own_asn s.outbox.address)) (box_of t.outbox) → Takes W (step_by s.exchange s.now.received (up i) s.sessions) s t
  up_opens s t i known free exchange peers now same opens =
      subst (λ (e : Step). Takes W e s t) (sym (cond-true (ltb i (count_of s.exchange)) (peer_step i (up_effect s.exchange.asn s.exchange.address i (s.sessions i)) s.sessions) (no_step s.sessions) (lt-ltb i (count_of s.exchange) known)))
      (subst (λ (e : Effect). Takes W (peer_step i e s.sessions) s t) (sym (cond-true (is_down (s.sessions i)) (record { session = opened (s.sessions i); first = Carries i (open_bytes s.exchange.asn s.exchange.address) ∷ []; row = [] }) (nothing (s.sessions i)) free))
      (record {
        exchange = exchange;
        peers = peers;
        sessions = same;
        middle = t.outbox;
        first = λ here. one (Puts W) (box_of s.outbox) (box_of t.outbox) (Carries i (open_bytes s.exchange.asn s.exchange.address)) (subst (λ m. Puts W (box_of s.outbox) (Carries i m) (box_of t.outbox)) (λ k. open_bytes (here.own k) (here.address k)) opens);
        row = λ level. subst (λ n. PromisedAll (size_of s.peers) [] s.now n (SendsBy W) t.outbox t.outbox) (sym now) (no_row (SendsBy W) (size_of s.peers) s.now t.outbox);
      }))

  -- a connection is lost whose session is down
  pub loss_idle : (s : State O) (i : ℕ) → is_down (s.sessions i) ≡ true → Takes W (peer_step i (loss_effect i (s.sessions i)) s.sessions) s s
  loss_idle s i idle =
      subst (λ (e : Effect). Takes W (peer_step i e s.sessions) s s) (sym (cond-true (is_down (s.sessions i)) (nothing (s.sessions i)) (going_down i []) idle))
      (goes_on s s (at i (s.sessions i) s.sessions) refl refl refl refl (same_at i s.sessions))
