-- What goes out at a tick, peer by peer, and what a tick comes to. Assumes nothing.
use Rattle.std.proofs.Common.{◌≡◌, ℕ, zero, suc, ◌+◌, ◌<◌, ◌≤◌, Bool, true, false, cond, ◌&&◌, ◌||◌, ltb, List, [], ◌∷◌, ◌++◌, length, take, sym, refl, ap, ◌∙◌, subst, ⊎_elim, add-one, arith, length-take}
use Rattle.frame.specs.Frame.{Happening, tick}
use Rattle.message_write.specs.Written.{keepalive_bytes}
use Rattle.model.proofs.Chains.{none, one, join}
use Rattle.model.proofs.Rows.{no_row, one_event}
use Rattle.model.specs.Chain.{Chain}
use Rattle.model.specs.Model.{Event, GoDown, Now}
use Rattle.model.specs.Rows.{PromisedAll}
use Rattle.model.specs.Stands.{Promised}
use Rattle.outbox.proofs.Rows.{put_out}
use Rattle.outbox.specs.Frames.{Carries, reaches_any}
use Rattle.outbox.specs.Outbox.{Box, box_of, Puts, SendsBy}
use Rattle.outbox.specs.declared.Outbox.{Outbox}
use Rattle.peers.specs.Members.{is_member}
use Rattle.server.specs.Meant.{size_of, members_below}
use Rattle.session.specs.Session.{Session, is_keepalive_due, sent_now}
use Rattle.sessions.specs.Sessions.{sent_to, sessions_later, silent_in}
use Rattle.speaker.specs.Serves.{Finishes}
use Rattle.speaker.specs.State.{State, Level, Takes}
use Rattle.speaker_model.specs.Effects.{fault_frames}
use Rattle.speaker_model.specs.World.{any_below, count_of, down_frames, down_row, is_tick, keepalives, step_by}
use Rattle.std.specs.List.{list_any, range_with_len}
use Rattle.std.proofs.lemmas.Bool.{both_ways, cases_lt, cond-true, cond-false, false≢true, lt-ltb, or_right}

module _ {O : Type 0} (W : O → List ℕ → O → Type 0) where
  -- sessions that end, peer by peer
  pub downs_none : (set : ℕ → Bool) (s : Box O) → Chain (Puts W) s (down_frames 13 set 0) s
  unfolding down_frames
  downs_none set s = none (Puts W) s

  pub downs_more : (set : ℕ → Bool) (n : ℕ) (s t u : Box O) → set n ≡ true → Chain (Puts W) s (down_frames 13 set n) t → Chain (Puts W) t (fault_frames n 13) u → Chain (Puts W) s (down_frames 13 set (n + 1)) u
  unfolding down_frames
  downs_more set n s t u is before ended =
      subst (λ k. Chain (Puts W) s (down_frames 13 set k) u) (sym (add-one n))
      (join (Puts W) s t u (down_frames 13 set n) (cond (set n) (fault_frames n 13) []) before (subst (λ l. Chain (Puts W) t l u) (sym (cond-true (set n) (fault_frames n 13) [] is)) ended))

  pub downs_kept : (set : ℕ → Bool) (n : ℕ) (s t : Box O) → set n ≡ false → Chain (Puts W) s (down_frames 13 set n) t → Chain (Puts W) s (down_frames 13 set (n + 1)) t
  unfolding down_frames
  downs_kept set n s t isn't before =
      subst (λ k. Chain (Puts W) s (down_frames 13 set k) t) (sym (add-one n))
      (join (Puts W) s t t (down_frames 13 set n) (cond (set n) (fault_frames n 13) []) before (subst (λ l. Chain (Puts W) t l t) (sym (cond-false (set n) (fault_frames n 13) [] isn't)) (none (Puts W) t)))

  -- keepalives, peer by peer
  pub alive_none : (sessions : ℕ → Session) (s : Box O) → Chain (Puts W) s (keepalives sessions 0) s
  unfolding keepalives
  alive_none sessions s = none (Puts W) s

  pub alive_more : (sessions : ℕ → Session) (n : ℕ) (s t u : Box O) → is_keepalive_due (sessions n) ≡ true → Chain (Puts W) s (keepalives sessions n) t → Puts W t (Carries n keepalive_bytes) u → Chain (Puts W) s (keepalives sessions (n + 1)) u
  unfolding keepalives
  alive_more sessions n s t u is before told =
      subst (λ k. Chain (Puts W) s (keepalives sessions k) u) (sym (add-one n))
      (join (Puts W) s t u (keepalives sessions n) (cond (is_keepalive_due (sessions n)) (Carries n keepalive_bytes ∷ []) []) before
      (subst (λ l. Chain (Puts W) t l u) (sym (cond-true (is_keepalive_due (sessions n)) (Carries n keepalive_bytes ∷ []) [] is)) (one (Puts W) t u (Carries n keepalive_bytes) told)))

  pub alive_kept : (sessions : ℕ → Session) (n : ℕ) (s t : Box O) → is_keepalive_due (sessions n) ≡ false → Chain (Puts W) s (keepalives sessions n) t → Chain (Puts W) s (keepalives sessions (n + 1)) t
  unfolding keepalives
  alive_kept sessions n s t isn't before =
      subst (λ k. Chain (Puts W) s (keepalives sessions k) t) (sym (add-one n))
      (join (Puts W) s t t (keepalives sessions n) (cond (is_keepalive_due (sessions n)) (Carries n keepalive_bytes ∷ []) []) before (subst (λ l. Chain (Puts W) t l t) (sym (cond-false (is_keepalive_due (sessions n)) (Carries n keepalive_bytes ∷ []) [] isn't)) (none (Puts W) t)))

pub ruleset downs = (downs_none, downs_more, downs_kept)

pub ruleset alives = (alive_none, alive_more, alive_kept)

-- one of the peers below n is so, by std's word for it
any_more : (set : ℕ → Bool) (a n : ℕ) → list_any set (range_with_len a (suc n)) ≡ (list_any set (range_with_len a n) || set (a + n))
any_more set a zero = or_none (set a) (set (a + 0)) (ap set (omega arith))
  where
    or_none : (b d : Bool) → b ≡ d → (b || false) ≡ d
    or_none true d e = e
    or_none false d e = e
any_more set a (suc n) =
    ap (λ b. set a || b) (any_more set (a + 1) n) ∙ or_more (set a) (list_any set (range_with_len (a + 1) n)) (set (a + 1 + n)) (set (a + suc n)) (ap set (omega arith))
  where
    or_more : (b d e f : Bool) → e ≡ f → (b || (d || e)) ≡ ((b || d) || f)
    or_more true d e f h = refl
    or_more false true e f h = refl
    or_more false false e f h = h

pub any_in_range : (set : ℕ → Bool) (n : ℕ) → list_any set (range_with_len 0 n) ≡ any_below n set
unfolding any_below
any_in_range set zero = refl
any_in_range set (suc n) = any_more set 0 n ∙ (λ t. any_in_range set n t || zero_more t)
  where
    zero_more : set (0 + n) ≡ set n
    zero_more = ap set (omega arith)

pub few_taken : {A : Type 0} (n : ℕ) (xs : List A) → n ≤ 64 → length (take n xs) ≤ 64
few_taken n xs few = omega (arith, length-take n xs)

-- sets that have the same members below n
module _ (set other : ℕ → Bool) where
  same_any : (n : ℕ) → ((j : ℕ) → j < n → set j ≡ other j) → any_below n set ≡ any_below n other
  unfolding any_below
  same_any zero h = refl
  same_any (suc n) h = λ k. same_any n (λ j l. h j (omega arith)) k || h n (omega arith) k

  same_members : (n : ℕ) → ((j : ℕ) → j < n → set j ≡ other j) → members_below n set ≡ members_below n other
  unfolding members_below
  same_members zero h = refl
  same_members (suc n) h = λ k. cond (h n (omega arith) k) (n ∷ same_members n (λ j l. h j (omega arith)) k) (same_members n (λ j l. h j (omega arith)) k)

  same_frames : (n : ℕ) → ((j : ℕ) → j < n → set j ≡ other j) → down_frames 13 set n ≡ down_frames 13 other n
  unfolding down_frames
  same_frames zero h = refl
  same_frames (suc n) h = λ k. same_frames n (λ j l. h j (omega arith)) k ++ cond (h n (omega arith) k) (fault_frames n 13) []

module _ {O : Type 0} (W : O → List ℕ → O → Type 0) where
  -- the sessions of a set of peers go down at a tick, or none does
  pub ticks : (s t : State O) (set : ℕ → Bool) (middle : Outbox O) → count_of s.exchange ≤ 64 → ((j : ℕ) → set j ≡ (ltb j 64 && silent_in s.sessions j)) → t.exchange ≡ s.exchange → t.peers ≡ s.peers → ((j : ℕ) → t.sessions j ≡ sessions_later s.sessions j) → Chain (Puts W) (box_of s.outbox) (down_frames 13 set (count_of s.exchange)) (box_of middle) → (Level s → PromisedAll (size_of s.peers) (down_row (count_of s.exchange) set) s.now t.now (SendsBy W) middle t.outbox) → Takes W (step_by s.exchange s.now.received tick s.sessions) s t
  ticks s t set middle few silent exchange peers sessions frames row =
      let n = count_of s.exchange in
      let same = λ (j : ℕ) (l : j < n). silent j ∙ ap (λ b. b && silent_in s.sessions j) (lt-ltb j 64 (omega arith)) in
      record {
        exchange = exchange;
        peers = peers;
        sessions = sessions;
        middle = middle;
        first = λ here. subst (λ l. Chain (Puts W) (box_of s.outbox) l (box_of middle)) (same_frames set (silent_in s.sessions) n same) frames;
        row = λ level. subst (λ (l : List Event). PromisedAll (size_of s.peers) l s.now t.now (SendsBy W) middle t.outbox) (λ k. cond (same_any set (silent_in s.sessions) n same k) (GoDown (same_members set (silent_in s.sessions) n same k) ∷ []) []) (row level);
      }

  -- some go down
  pub some_down : (s : State O) (now : Now) (set : ℕ → Bool) (middle to : Outbox O) → any_below (count_of s.exchange) set ≡ true → Promised (size_of s.peers) (GoDown (members_below s.peers set)) s.now now (SendsBy W) middle to → Level s → PromisedAll (size_of s.peers) (down_row (count_of s.exchange) set) s.now now (SendsBy W) middle to
  some_down s now set middle to any promised level =
      subst (λ (l : List Event). PromisedAll (size_of s.peers) l s.now now (SendsBy W) middle to) (sym (cond-true (any_below (count_of s.exchange) set) (GoDown (members_below (count_of s.exchange) set) ∷ []) [] any))
      (one_event (SendsBy W) (size_of s.peers) (GoDown (members_below (count_of s.exchange) set)) s.now now middle to (subst (λ n. Promised (size_of s.peers) (GoDown (members_below n set)) s.now now (SendsBy W) middle to) level.peers promised))

  -- none does
  pub none_down : (s : State O) (set : ℕ → Bool) (middle : Outbox O) → any_below (count_of s.exchange) set ≡ false → Level s → PromisedAll (size_of s.peers) (down_row (count_of s.exchange) set) s.now s.now (SendsBy W) middle middle
  none_down s set middle none level =
      subst (λ (l : List Event). PromisedAll (size_of s.peers) l s.now s.now (SendsBy W) middle middle) (sym (cond-false (any_below (count_of s.exchange) set) (GoDown (members_below (count_of s.exchange) set) ∷ []) [] none))
      (no_row (SendsBy W) (size_of s.peers) s.now middle)

-- what was noted once is noted
sent_twice : (first second : ℕ → Bool) (f : ℕ → Session) (i : ℕ) → (first i ≡ true → second i ≡ true) → sent_to second (sent_to first f) i ≡ sent_to second f i
unfolding sent_to
sent_twice first second f i more = both (first i) (second i) more
  where
    both : (a b : Bool) → (a ≡ true → b ≡ true) → cond b (sent_now (cond a (sent_now (f i)) (f i))) (cond a (sent_now (f i)) (f i)) ≡ cond b (sent_now (f i)) (f i)
    both true true h = refl
    both false true h = refl
    both true false h = absurd (false≢true (h refl))
    both false false h = refl

module _ {O : Type 0} (W : O → List ℕ → O → Type 0) (h : Happening) where
  -- behind all but a tick
  pub finishes : (s t : State O) → is_tick h ≡ false → t.exchange ≡ s.exchange → t.peers ≡ s.peers → t.now ≡ s.now → t.outbox ≡ s.outbox → ((i : ℕ) → t.sessions i ≡ sent_to (is_member s.outbox.reached) s.sessions i) → Finishes W h s t
  finishes s t off exchange peers now outbox sessions = record {
    exchange = exchange;
    peers = peers;
    now = now;
    kept_alive = subst (λ l. Chain (Puts W) (box_of s.outbox) l (box_of t.outbox)) (sym (cond-false (is_tick h) (keepalives (sent_to (is_member s.outbox.reached) s.sessions) (count_of s.exchange)) [] off)) (subst (λ o. Chain (Puts W) (box_of s.outbox) [] (box_of o)) (sym outbox) (none (Puts W) (box_of s.outbox)));
    sessions = λ i. sessions i ∙ ap (λ o. sent_to (is_member o.reached) s.sessions i) (sym outbox);
  }

  -- behind a tick
  pub finishes_tick : (s t : State O) (noted : ℕ → Session) → is_tick h ≡ true → t.exchange ≡ s.exchange → t.peers ≡ s.peers → t.now ≡ s.now → ((i : ℕ) → noted i ≡ sent_to (is_member s.outbox.reached) s.sessions i) → ((i : ℕ) → 64 ≤ i → is_member s.outbox.reached i ≡ false) → Chain (Puts W) (box_of s.outbox) (keepalives noted (count_of s.exchange)) (box_of t.outbox) → ((i : ℕ) → t.sessions i ≡ sent_to (is_member t.outbox.reached) noted i) → Finishes W h s t
  finishes_tick s t noted is exchange peers now first past alive second =
      let same : noted ≡ sent_to (is_member s.outbox.reached) s.sessions = λ k i. first i k in
      let out = put_out W (box_of s.outbox) (box_of t.outbox) (keepalives noted (count_of s.exchange)) alive in
      record {
        exchange = exchange;
        peers = peers;
        now = now;
        kept_alive = subst (λ l. Chain (Puts W) (box_of s.outbox) l (box_of t.outbox)) (ap (λ f. keepalives f (count_of s.exchange)) same ∙ sym (cond-true (is_tick h) (keepalives (sent_to (is_member s.outbox.reached) s.sessions) (count_of s.exchange)) [] is)) alive;
        sessions = λ i. second i ∙ ap (λ f. sent_to (is_member t.outbox.reached) f i) same ∙ sent_twice (is_member s.outbox.reached) (is_member t.outbox.reached) s.sessions i
            (λ on. ⊎_elim
            (λ l. out.reached i l ∙ or_right (reaches_any i (keepalives noted (count_of s.exchange))) (is_member s.outbox.reached i) on)
            (λ l. absurd (both_ways (is_member s.outbox.reached i) (past i l) on))
            (cases_lt i 64));
      }
