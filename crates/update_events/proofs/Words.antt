-- What an UPDATE says, prefix by prefix. Assumes nothing.
use Rattle.std.proofs.Common.{◌≡◌, ℕ, zero, suc, ◌+◌, ◌≤◌, Bool, true, false, cond, ◌||◌, List, [], ◌∷◌, ◌++◌, Option, sym, refl, ap, ◌∙◌, subst, ⊎_elim, append-nil, add-one, arith}
use Rattle.model.proofs.Rows.{no_row, row_join, one_event}
use Rattle.model.specs.Model.{Size, Now}
use Rattle.model.specs.Rows.{PromisedAll}
use Rattle.model.specs.Stands.{Promised}
use Rattle.model.specs.Updates.{Update}
use Rattle.rib.specs.Received.{Received, is_route, count_of}
use Rattle.std.proofs.lemmas.Bool.{cond-true, cond-false, cases_lt, or_from}
use Rattle.route.specs.Route.{Route}
use Rattle.update.specs.Update.{Content}
use Rattle.update.specs.Update as says
use Rattle.update_events.specs.Words.{is_withdrawn, is_announced, last_word, word_on, words_at, words_below, needs, needs_if, NextNamed, Unnamed}

-- what isn't announced needs nothing
not_needed : (c : Content) (kept : Bool) → needs_if c false kept ≡ false
not_needed (says.Announces a) kept = refl
not_needed says.Withdraws kept = refl
not_needed (says.Faulty k) kept = refl

module _ (i : ℕ) (c : Content) (m : List ℕ) (f : Received) where
  -- prefixes that aren't named
  pub count_skips : (a e : ℕ) → a ≤ e → Unnamed m a e → count_of e (needs i c m f) ≡ count_of a (needs i c m f)
  unfolding count_of needs
  count_skips a zero h none = let z : a ≡ 0 = omega arith in ap (λ k. count_of k (needs i c m f)) (sym z)
  count_skips a (suc e) h none =
      ⊎_elim
      (λ l.
      let quiet : needs i c m f e ≡ false = ap (λ b. needs_if c b (is_route (f i e))) (none.announced e (omega arith) (omega arith)) ∙ not_needed c (is_route (f i e)) in
      let here = ap (λ b. cond {A = ℕ} b 1 0) quiet in
      let below = count_skips a e (omega arith) (record { withdrawn = λ p b d. none.withdrawn p b (omega arith); announced = λ p b d. none.announced p b (omega arith) }) in
      omega arith)
      (λ l. let z : suc e ≡ a = omega arith in ap (λ k. count_of k (needs i c m f)) z)
      (cases_lt a (suc e))

  -- one prefix more is counted
  pub count_more : (a e n before after : ℕ) (b : Bool) → NextNamed m a n → e ≡ n → before ≡ count_of a (needs i c m f) → b ≡ needs i c m f n → after ≡ before + cond b 1 0 → after ≡ count_of (e + 1) (needs i c m f)
  unfolding count_of
  count_more a e n before after b next here counted is more =
      let skip = count_skips a n next.from next.first in
      let one : count_of (n + 1) (needs i c m f) ≡ cond (needs i c m f n) 1 0 + count_of n (needs i c m f) = ap (λ k. count_of k (needs i c m f)) (add-one n) in
      let same : cond {A = ℕ} b 1 0 ≡ cond (needs i c m f n) 1 0 = ap (λ x. cond x 1 0) is in
      let there : count_of (e + 1) (needs i c m f) ≡ count_of (n + 1) (needs i c m f) = ap (λ k. count_of (k + 1) (needs i c m f)) here in
      omega arith

module _ {S : Type 0} (R : S → Update → S → Type 0) (z : Size) (i : ℕ) (c : Content) (m : List ℕ) where
  words_skip : (a e : ℕ) → a ≤ e → Unnamed m a e → words_below i c m e ≡ words_below i c m a
  unfolding words_below words_at
  words_skip a zero h none = let z : a ≡ 0 = omega arith in ap (words_below i c m) (sym z)
  words_skip a (suc e) h none =
      ⊎_elim
      (λ l.
      let quiet = cond-false (is_withdrawn m e || is_announced m e) (word_on i e (last_word c (is_announced m e) e) ∷ []) [] (or_from (is_withdrawn m e) (is_announced m e) (none.withdrawn e (omega arith) (omega arith)) (none.announced e (omega arith) (omega arith))) in
      ap (λ ws. words_below i c m e ++ ws) quiet ∙ append-nil (words_below i c m e) ∙ words_skip a e (omega arith) (record { withdrawn = λ p b d. none.withdrawn p b (omega arith); announced = λ p b d. none.announced p b (omega arith) }))
      (λ l. let z : suc e ≡ a = omega arith in ap (words_below i c m) z)
      (cases_lt a (suc e))

  -- nothing is said below 0
  pub words_none : (s : Now) (from : S) → PromisedAll z (words_below i c m 0) s s R from from
  unfolding words_below
  words_none s from = no_row R z s from

  -- one prefix more
  pub words_more : (a e n : ℕ) (y : Size) (s t u : Now) (from mid to : S) → NextNamed m a n → e ≡ n → y ≡ z → PromisedAll z (words_below i c m a) s t R from mid → PromisedAll y (words_at i c m n) t u R mid to → PromisedAll z (words_below i c m (e + 1)) s u R from to
  unfolding words_below
  words_more a e n y s t u from mid to next here same before now =
      subst (λ k. PromisedAll z (words_below i c m k) s u R from to) (sym (add-one n) ∙ ap (λ k. k + 1) (sym here))
      (row_join R z (words_below i c m n) (words_at i c m n) s t u from mid to (subst (λ row. PromisedAll z row s t R from mid) (sym (words_skip a n next.from next.first)) before) (subst (λ x. PromisedAll x (words_at i c m n) t u R mid to) same now))

  -- prefixes that aren't named
  pub words_skipped : (a e : ℕ) (s t : Now) (from to : S) → a ≤ e → Unnamed m a e → PromisedAll z (words_below i c m a) s t R from to → PromisedAll z (words_below i c m e) s t R from to
  words_skipped a e s t from to h none before = subst (λ row. PromisedAll z row s t R from to) (sym (words_skip a e h none)) before

module _ {S : Type 0} (R : S → Update → S → Type 0) (z : Size) (i : ℕ) (c : Content) (m : List ℕ) (p : ℕ) where
  -- the word on one prefix that is named
  pub said : (x : Option Route) (s t : Now) (from to : S) → (is_withdrawn m p || is_announced m p) ≡ true → x ≡ last_word c (is_announced m p) p → Promised z (word_on i p x) s t R from to → PromisedAll z (words_at i c m p) s t R from to
  unfolding words_at
  said x s t from to named is h = subst (λ row. PromisedAll z row s t R from to) (sym (cond-true (is_withdrawn m p || is_announced m p) (word_on i p (last_word c (is_announced m p) p) ∷ []) [] named ∙ ap (λ y. word_on i p y ∷ []) (sym is))) (one_event R z (word_on i p x) s t from to h)
