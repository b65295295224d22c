-- An UPDATE for which there is room: every word of it counts. Assumes nothing.
use Rattle.std.proofs.Common.{◌≡◌, ℕ, zero, suc, ◌+◌, ◌<◌, ◌≤◌, Bool, true, false, cond, ◌&&◌, ◌||◌, eqb, ltb, leb, List, [], ◌∷◌, Some, Option, sym, refl, ap, ◌∙◌, subst, ⊎_elim, arith}
use Rattle.model.specs.Model.{Size, Now, down, says, step}
use Rattle.prefix.proofs.Descent.{onto}
use Rattle.prefix.specs.Prefix.{count}
use Rattle.rib.specs.Received.{Received, updated, is_route, stored, capacity, most_peers}
use Rattle.route.specs.Route.{Route}
use Rattle.server.specs.Meant.{size_of}
use Rattle.speaker_model.proofs.Counts.{stored_within, stored_rises}
use Rattle.speaker_model.proofs.Runs.{runs, runs_none, runs_one, runs_join, Apart, apart_same, apart_trans, says_apart}
use Rattle.std.proofs.lemmas.Bool.{cases_Bool, cond-true, cond-false, cond_both, and_from, lt-ltb, le-leb, ltb-false}
use Rattle.std.proofs.lemmas.Bool.Decides.{nat_tests as tests}
use Rattle.update.specs.Update.{Content}
use Rattle.update.specs.Update as content
use Rattle.update_events.specs.Words.{is_withdrawn, is_announced, route_said, last_word, word_on, words_at, words_below, words, needs_if, needs, needed, lacks_room}

-- the word on a prefix, as the model takes it
word_step : (z : Size) (i p : ℕ) (c : Content) (announced : Bool) (s : Now) → p < count → step z (word_on i p (last_word c announced p)) s ≡ says z i p (last_word c announced p) s
word_step z i p (content.Announces a) true s h = ap (λ q. says z i q (Some (route_said a p)) s) (onto p h).1
word_step z i p (content.Announces a) false s h = refl
word_step z i p content.Withdraws announced s h = refl
word_step z i p (content.Faulty k) announced s h = refl

-- a prefix that needs no place, of which the peer had no route, has none afterwards
no_place : (c : Content) (announced kept : Bool) (p : ℕ) → kept ≡ false → needs_if c announced kept ≡ false → is_route (last_word c announced p) ≡ false
no_place (content.Announces a) true true p k n = k
no_place (content.Announces a) true false p k n = n
no_place (content.Announces a) false kept p k n = refl
no_place content.Withdraws announced kept p k n = refl
no_place (content.Faulty a) announced kept p k n = refl

module _ (i : ℕ) (c : Content) (m : List ℕ) where
  -- nobody else is touched by any row of words of peer i
  word_apart : (z : Size) (p : ℕ) (s : Now) → p < count → Apart i s (runs z (words_at i c m p) s)
  unfolding words_at
  word_apart z p s h =
      cond_both (is_withdrawn m p || is_announced m p) (word_on i p (last_word c (is_announced m p) p) ∷ []) [] (λ row. Apart i s (runs z row s))
      (λ _. subst (Apart i s) (sym (runs_one z _ s ∙ word_step z i p c (is_announced m p) s h)) (says_apart z i p (last_word c (is_announced m p) p) s))
      (λ _. subst (Apart i s) (sym (runs_none z s)) (apart_same i s))

  below_apart : (z : Size) (k : ℕ) (s : Now) → k ≤ count → Apart i s (runs z (words_below i c m k) s)
  unfolding words_below
  below_apart z zero s h = subst (Apart i s) (sym (runs_none z s)) (apart_same i s)
  below_apart z (suc k) s h =
      subst (Apart i s) (sym (runs_join z (words_below i c m k) (words_at i c m k) s))
      (apart_trans i s (runs z (words_below i c m k) s) _ (below_apart z k s (omega arith)) (word_apart z k (runs z (words_below i c m k) s) (omega arith)))

  pub words_apart : (z : Size) (s : Now) → Apart i s (runs z (words i c m) s)
  words_apart z s = below_apart z count s (omega arith)

  module _ (n : ℕ) (s : Now) where
    -- what peer i last announced of a prefix, by the message and by what it had announced before
    abbrev pub said : ℕ → Option Route
    said p = cond (is_withdrawn m p || is_announced m p) (last_word c (is_announced m p) p) (s.received i p)

    abbrev said_below : ℕ → Received
    said_below k j p = cond (eqb j i && ltb p k) (said p) (s.received j p)

    abbrev pub now_below : ℕ → Now
    now_below k = record { rules = s.rules; up = s.up; received = said_below k }

    module _ (there : i < n) (few : n ≤ most_peers) (is_up : s.up i ≡ true) (room : lacks_room i c m s.received ≡ false) where
      no_route_lem : (p : ℕ) → is_route (s.received i p) ≡ false → needs i c m s.received p ≡ false → is_route (said p) ≡ false
      unfolding needs
      no_route_lem p a e = cond_both (is_withdrawn m p || is_announced m p) (last_word c (is_announced m p) p) (s.received i p) (λ y. is_route y ≡ false) (λ _. no_place c (is_announced m p) (is_route (s.received i p)) p a e) (λ _. a)

      fits : (k : ℕ) → stored n count (said_below k) ≤ capacity
      fits k =
          let more = stored_within n count s.received (said_below k) i (needs i c m s.received) (λ j p ne. unlike j p ne (said p) (s.received j p)) (λ p a e. cond_both (eqb i i && ltb p k) (said p) (s.received i p) (λ y. is_route y ≡ false) (λ _. no_route_lem p a e) (λ _. a)) in
          let all = stored_rises n most_peers count s.received few in
          let left = ltb-false capacity (stored most_peers count s.received + needed i c m s.received) room in
          omega arith
        where
          unlike : (j p : ℕ) → (j ≡ i → ⊥) → (x y : Option Route) → cond (eqb j i && ltb p k) x y ≡ y
          unlike j p ne x y = grind (arith, tests)

      one_more : (k j p : ℕ) (f : ℕ → Option Route) (y : Option Route) → cond (eqb j i && eqb p k) (f k) (cond (eqb j i && ltb p k) (f p) y) ≡ cond (eqb j i && ltb p (suc k)) (f p) y
      one_more k j p f y = grind (arith, tests)

      -- one word more
      named_step : (k : ℕ) → k < count → (x : Option Route) → x ≡ said k → says (size_of n) i k x (now_below k) ≡ now_below (suc k)
      named_step k h x is =
          let next : updated i k x (said_below k) ≡ said_below (suc k) = ap (λ y. updated i k y (said_below k)) is ∙ (λ t j p. one_more k j p said (s.received j p) t) in
          cond-true (ltb i n && (ltb k count && s.up i)) _ (now_below k) (and_from (ltb i n) _ (lt-ltb i n there) (and_from (ltb k count) (s.up i) (lt-ltb k count h) is_up))
          ∙ cond-true (leb (stored n count (updated i k x (said_below k))) capacity) _ (down i (now_below k)) (ap (λ f. leb (stored n count f) capacity) next ∙ le-leb (stored n count (said_below (suc k))) capacity (fits (suc k)))
          ∙ (λ t. record { rules = s.rules; up = s.up; received = next t })

      unnamed_step : (k : ℕ) → said k ≡ s.received i k → now_below k ≡ now_below (suc k)
      unnamed_step k quiet = λ t. record { rules = s.rules; up = s.up; received = λ j p. stays j p (said p) (s.received j p) (λ a e. ap said e ∙ quiet ∙ (λ u. s.received (sym a u) (sym e u))) t }
        where
          stays : (j p : ℕ) (x y : Option Route) → (j ≡ i → p ≡ k → x ≡ y) → cond (eqb j i && ltb p k) x y ≡ cond (eqb j i && ltb p (suc k)) x y
          stays j p x y e = grind (arith, tests)

      next_step : (k : ℕ) → k < count → runs (size_of n) (words_at i c m k) (now_below k) ≡ now_below (suc k)
      unfolding words_at
      next_step k h =
          ⊎_elim
          (λ is_named.
          let x = last_word c (is_announced m k) k in
          ap (λ row. runs (size_of n) row (now_below k)) (cond-true (is_withdrawn m k || is_announced m k) (word_on i k x ∷ []) [] is_named) ∙ runs_one (size_of n) (word_on i k x) (now_below k) ∙ word_step (size_of n) i k c (is_announced m k) (now_below k) h
          ∙ named_step k h x (sym (cond-true (is_withdrawn m k || is_announced m k) x (s.received i k) is_named)))
          (λ not_named.
          ap (λ row. runs (size_of n) row (now_below k)) (cond-false (is_withdrawn m k || is_announced m k) (word_on i k (last_word c (is_announced m k) k) ∷ []) [] not_named) ∙ runs_none (size_of n) (now_below k)
          ∙ unnamed_step k (cond-false (is_withdrawn m k || is_announced m k) (last_word c (is_announced m k) k) (s.received i k) not_named))
          (cases_Bool (is_withdrawn m k || is_announced m k))

      said_below_lem : (k : ℕ) → k ≤ count → runs (size_of n) (words_below i c m k) s ≡ now_below k
      unfolding words_below
      said_below_lem zero h = runs_none (size_of n) s ∙ (λ t. record { rules = s.rules; up = s.up; received = λ j p. none j p (said p) (s.received j p) t })
        where
          none : (j p : ℕ) (x y : Option Route) → y ≡ cond (eqb j i && ltb p 0) x y
          none j p x y = grind (arith, tests)
      said_below_lem (suc k) h = runs_join (size_of n) (words_below i c m k) (words_at i c m k) s ∙ ap (runs (size_of n) (words_at i c m k)) (said_below_lem k (omega arith)) ∙ next_step k (omega arith)

      -- all words count
      pub all_said : runs (size_of n) (words i c m) s ≡ now_below count
      all_said = said_below_lem count (omega arith)
