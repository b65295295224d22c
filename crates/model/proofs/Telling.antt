-- What peers hold after they are told. Assumes nothing.
use Rattle.std.proofs.Common.{◌≡◌, ℕ, zero, suc, Bool, true, false, cond, ◌&&◌, eqb, ltb, List, [], ◌∷◌, ◌++◌, Option, sym, refl, ap, ◌∙◌, subst, ⊎_elim, arith}
use Rattle.model.proofs.Equality.{option_equal}
use Rattle.route.specs.Same.{same_option}
use Rattle.model.specs.Updates.{Update, Held, tell_if, row, updates, Sent, Begins, Tells, tells, follows, held_after}
use Rattle.route.specs.Route.{Route}
use Rattle.std.proofs.lemmas.Bool.{cases_Bool, cond-true, cond-false}
use Rattle.std.proofs.lemmas.Bool.Decides.{nat_tests as tests}

pub tells_append : (us vs : List Update) → tells (us ++ vs) ≡ tells us ++ tells vs
unfolding tells
tells_append [] vs = refl
tells_append (u ∷ us) vs = ap (λ l. Tells u ∷ l) (tells_append us vs)

pub held_append : (held : Held) (ss ts : List Sent) → held_after held (ss ++ ts) ≡ held_after (held_after held ss) ts
unfolding held_after
held_append held [] ts = refl
held_append held (s ∷ ss) ts = held_append (follows s held) ss ts

-- where nothing is new nothing changes
unchanged : (held : Held) (j m : ℕ) (new : Option Route) → new ≡ held j m → (k q : ℕ) → held k q ≡ cond (eqb k j && eqb q m) new (held k q)
unchanged held j m new e k q = grind (arith, tests)

-- what is held after one peer is told of one prefix more
one_more : (held : Held) (j m : ℕ) (old new : Option Route) → held j m ≡ old → (k q : ℕ) → held_after held (tells (tell_if j m old new)) k q ≡ cond (eqb k j && eqb q m) new (held k q)
unfolding tells held_after
one_more held j m old new e k q =
    ⊎_elim
    (λ h. ap (λ us. held_after held (tells us) k q) (cond-true (same_option new old) [] _ h) ∙ unchanged held j m new (option_equal new old h ∙ sym e) k q)
    (λ h. ap (λ us. held_after held (tells us) k q) (cond-false (same_option new old) [] _ h))
    (cases_Bool (same_option new old))

module _ (j : ℕ) (old new : ℕ → Option Route) where
  -- a row tells peer j all that is new below m, and nothing else
  row_held : (m : ℕ) (held : Held) → ((q : ℕ) → held j q ≡ old q) → (k q : ℕ) → held_after held (tells (row j old new m)) k q ≡ cond (eqb k j && ltb q m) (new q) (held k q)
  unfolding row tells held_after
  row_held zero held e k q = grind (arith, tests)
  row_held (suc m) held e k q =
      let before : Held = held_after held (tells (row j old new m)) in
      let split : held_after held (tells (row j old new m ++ tell_if j m (old m) (new m))) ≡ held_after before (tells (tell_if j m (old m) (new m))) = ap (held_after held) (tells_append (row j old new m) (tell_if j m (old m) (new m))) ∙ held_append held (tells (row j old new m)) (tells (tell_if j m (old m) (new m))) in
      let still : before j m ≡ old m = row_held m held e j m ∙ kept m (held j m) ∙ e m in
      ap (λ f. f k q) split ∙ one_more before j m (old m) (new m) still k q ∙ ap (cond (eqb k j && eqb q m) (new m)) (row_held m held e k q) ∙ joined m q (eqb k j) (held k q)
    where
      kept : (m : ℕ) (x : Option Route) → cond (eqb j j && ltb m m) (new m) x ≡ x
      kept m x = grind (arith, tests)

      joined : (m q : ℕ) (b : Bool) (x : Option Route) → cond (b && eqb q m) (new m) (cond (b && ltb q m) (new q) x) ≡ cond (b && ltb q (suc m)) (new q) x
      joined m q true x = grind (arith, tests)
      joined m q false x = refl

module _ (m : ℕ) (up : ℕ → Bool) (old new : Held) where
  -- all that are up are told all that is new, and nobody else anything
  pub updates_held : (n : ℕ) (held : Held) → ((j q : ℕ) → held j q ≡ old j q) → (k q : ℕ) → held_after held (tells (updates m up old new n)) k q ≡ cond (ltb k n && (up k && ltb q m)) (new k q) (held k q)
  unfolding updates tells held_after
  updates_held zero held e k q = grind (arith, tests)
  updates_held (suc n) held e k q =
      let before : Held = held_after held (tells (updates m up old new n)) in
      let more : List Update = cond (up n) (row n (old n) (new n) m) [] in
      let split : held_after held (tells (updates m up old new n ++ more)) ≡ held_after before (tells more) = ap (held_after held) (tells_append (updates m up old new n) more) ∙ held_append held (tells (updates m up old new n)) (tells more) in
      let still : (i : ℕ) → before n i ≡ old n i = λ i. updates_held n held e n i ∙ kept n i (held n i) ∙ e n i in
      ap (λ f. f k q) split ∙ told n before still k q ∙ ap (cond (eqb k n && (up n && ltb q m)) (new n q)) (updates_held n held e k q) ∙ joined n k q (held k q)
    where
      kept : (n i : ℕ) (x : Option Route) → cond (ltb n n && (up n && ltb i m)) (new n i) x ≡ x
      kept n i x = grind (arith, tests)

      silent : (n k q : ℕ) (x : Option Route) → up n ≡ false → x ≡ cond (eqb k n && (up n && ltb q m)) (new n q) x
      silent n k q x h = grind (arith, tests)

      told : (n : ℕ) (before : Held) → ((i : ℕ) → before n i ≡ old n i) → (k q : ℕ) → held_after before (tells (cond (up n) (row n (old n) (new n) m) [])) k q ≡ cond (eqb k n && (up n && ltb q m)) (new n q) (before k q)
      told n before still k q =
          ⊎_elim
          (λ h. ap (λ us. held_after before (tells us) k q) (cond-true (up n) _ [] h) ∙ row_held n (old n) (new n) m before still k q ∙ ap (λ b. cond (eqb k n && (b && ltb q m)) (new n q) (before k q)) (sym h))
          (λ h. ap (λ us. held_after before (tells us) k q) (cond-false (up n) _ [] h) ∙ silent n k q (before k q) h)
          (cases_Bool (up n))

      joined : (n k q : ℕ) (x : Option Route) → cond (eqb k n && (up n && ltb q m)) (new n q) (cond (ltb k n && (up k && ltb q m)) (new k q) x) ≡ cond (ltb k (suc n) && (up k && ltb q m)) (new k q) x
      joined n k q x = grind (arith, tests)

-- each update tells something that the peer does not hold then
unfoldable pub Fresh : Held → List Sent → Type 0
Fresh held [] = Unit {0}
Fresh held (Begins i ∷ ss) = Fresh (follows (Begins i) held) ss
Fresh held (Tells u ∷ ss) = (same_option u.route (held u.peer u.prefix) ≡ false) × Fresh (follows (Tells u) held) ss

pub fresh_append : (held : Held) (ss ts : List Sent) → Fresh held ss → Fresh (held_after held ss) ts → Fresh held (ss ++ ts)
unfolding Fresh held_after
fresh_append held [] ts f g = g
fresh_append held (Begins i ∷ ss) ts f g = fresh_append (follows (Begins i) held) ss ts f g
fresh_append held (Tells u ∷ ss) ts f g = (f.0, fresh_append (follows (Tells u) held) ss ts f.1 g)

pub fresh_at : (held : Held) (ss ts : List Sent) (u : Update) → Fresh held (ss ++ (Tells u ∷ ts)) → same_option u.route (held_after held ss u.peer u.prefix) ≡ false
unfolding Fresh held_after
fresh_at held [] ts u f = f.0
fresh_at held (Begins i ∷ ss) ts u f = fresh_at (follows (Begins i) held) ss ts u f
fresh_at held (Tells v ∷ ss) ts u f = fresh_at (follows (Tells v) held) ss ts u f.1

fresh_one : (held : Held) (j m : ℕ) (old new : Option Route) → held j m ≡ old → Fresh held (tells (tell_if j m old new))
unfolding Fresh tells
fresh_one held j m old new e =
    ⊎_elim
    (λ h. subst (λ us. Fresh held (tells us)) (sym (cond-true (same_option new old) [] (record { peer = j; prefix = m; route = new } ∷ []) h)) tt)
    (λ h. subst (λ us. Fresh held (tells us)) (sym (cond-false (same_option new old) [] (record { peer = j; prefix = m; route = new } ∷ []) h)) (ap (same_option new) e ∙ h, tt))
    (cases_Bool (same_option new old))

row_fresh : (j : ℕ) (old new : ℕ → Option Route) (m : ℕ) (held : Held) → ((q : ℕ) → held j q ≡ old q) → Fresh held (tells (row j old new m))
unfolding Fresh row tells
row_fresh j old new zero held e = tt
row_fresh j old new (suc m) held e =
    subst (Fresh held) (sym (tells_append (row j old new m) (tell_if j m (old m) (new m))))
    (fresh_append held (tells (row j old new m)) (tells (tell_if j m (old m) (new m))) (row_fresh j old new m held e)
    (fresh_one (held_after held (tells (row j old new m))) j m (old m) (new m) (row_held j old new m held e j m ∙ not_yet (held j m) ∙ e m)))
  where
    not_yet : (x : Option Route) → cond (eqb j j && ltb m m) (new m) x ≡ x
    not_yet x = grind (arith, tests)

pub updates_fresh : (m : ℕ) (up : ℕ → Bool) (old new : Held) (n : ℕ) (held : Held) → ((j q : ℕ) → held j q ≡ old j q) → Fresh held (tells (updates m up old new n))
unfolding Fresh updates tells
updates_fresh m up old new zero held e = tt
updates_fresh m up old new (suc n) held e =
    let before : Held = held_after held (tells (updates m up old new n)) in
    let more : List Update = cond (up n) (row n (old n) (new n) m) [] in
    let still : (i : ℕ) → before n i ≡ old n i = λ i. updates_held m up old new n held e n i ∙ not_yet i (held n i) ∙ e n i in
    subst (Fresh held) (sym (tells_append (updates m up old new n) more))
    (fresh_append held (tells (updates m up old new n)) (tells more) (updates_fresh m up old new n held e)
    (⊎_elim
    (λ h. subst (λ us. Fresh before (tells us)) (sym (cond-true (up n) (row n (old n) (new n) m) [] h)) (row_fresh n (old n) (new n) m before still))
    (λ h. subst (λ us. Fresh before (tells us)) (sym (cond-false (up n) (row n (old n) (new n) m) [] h)) tt)
    (cases_Bool (up n))))
  where
    not_yet : (i : ℕ) (x : Option Route) → cond (ltb n n && (up n && ltb i m)) (new n i) x ≡ x
    not_yet i x = grind (arith, tests)
