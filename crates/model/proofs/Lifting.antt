-- From one step of a state to the promise after all events. Assumes nothing.
use Rattle.std.proofs.Common.{◌≡◌, ℕ, zero, suc, ◌+◌, ◌<◌, ◌≤◌, Bool, true, false, cond, ◌&&◌, eqb, ltb, leb, List, [], ◌∷◌, ◌++◌, Some, None, Option, sym, refl, ap, ◌∙◌, subst, ⊎_elim, arith}
use Rattle.model.proofs.Promises.{exact, whole, sends}
use Rattle.model.proofs.Telling.{held_append}
use Rattle.model.specs.Chain.{Chain}
use Rattle.model.specs.Model.{Size, Event, Announces, Withdraws, Establishes, GoDown, PutInForce, Now, down, all_down, says, step, after, intended_in, begins, history, holds, sent}
use Rattle.model.specs.Stands.{Alike, Sound, held_before, Steps, Promised}
use Rattle.model.specs.Updates.{Update, Held, tell_if, row, updates, held_after, nothing}
use Rattle.policy.specs.Policy.{evaluate}
use Rattle.prefix.specs.Prefix.{number}
use Rattle.rib.specs.Received.{updated, is_route, count_of, stored}
use Rattle.route.specs.Route.{Route, with_local_pref}
use Rattle.selection.specs.Intended.{Rules, unless_ring, imported, or_better, selected, offered, exported_to}
use Rattle.std.proofs.lemmas.Bool.{cases_Bool, cond-true, cond-false, cond_both, ltb-true}
use Rattle.std.proofs.lemmas.Bool.Decides.{nat_tests as tests}

-- what is intended in states that go by the same is the same
imported_alike : (a e : Rules) (i : ℕ) (x y : Option Route) → a.own ≡ e.own → a.imports i ≡ e.imports i → x ≡ y → imported a i x ≡ imported e i y
imported_alike a e i x y o p q = ap (imported a i) q ∙ by_route y
  where
    by_route : (y : Option Route) → imported a i y ≡ imported e i y
    by_route None = refl
    by_route (Some r) = λ t. unless_ring (o t) (evaluate (p t) (with_local_pref 100 r))

module _ (z : Size) (s t : Now) (alike : Alike z s t) where
  selected_alike : (p n : ℕ) → n ≤ z.peers → p < z.prefixes → selected s.rules s.received p n ≡ selected t.rules t.received p n
  unfolding selected
  selected_alike p zero h l = refl
  selected_alike p (suc n) h l =
      let here = imported_alike s.rules t.rules n (s.received n p) (t.received n p) alike.own (alike.imports n (omega arith)) (alike.received n p (omega arith) l) in
      λ i. or_better n (here i) (selected_alike p n (omega arith) l i)

  pub intended_alike : (j p : ℕ) → j < z.peers → p < z.prefixes → intended_in z s j p ≡ intended_in z t j p
  intended_alike j p h l = λ i. exported_to (alike.exports j h i) j (offered (alike.own i) (selected_alike p z.peers (omega arith) l i))

  count_alike : (m n : ℕ) → m ≤ z.prefixes → n < z.peers → count_of m (λ p. is_route (s.received n p)) ≡ count_of m (λ p. is_route (t.received n p))
  unfolding count_of
  count_alike zero n h l = refl
  count_alike (suc m) n h l = λ i. cond (is_route (alike.received n m l (omega arith) i)) 1 0 + count_alike m n (omega arith) l i

  pub stored_alike : (n : ℕ) → n ≤ z.peers → stored n z.prefixes s.received ≡ stored n z.prefixes t.received
  unfolding stored
  stored_alike zero h = refl
  stored_alike (suc n) h = λ i. count_alike z.prefixes n (omega arith) (omega arith) i + stored_alike n (omega arith) i

alike_trans : (z : Size) (s t u : Now) → Alike z s t → Alike z t u → Alike z s u
alike_trans z s t u a e = record {
  own = a.own ∙ e.own;
  imports = λ i h. a.imports i h ∙ e.imports i h;
  exports = λ i h. a.exports i h ∙ e.exports i h;
  up = λ i h. a.up i h ∙ e.up i h;
  received = λ i p h l. a.received i p h l ∙ e.received i p h l;
}

alike_cond : (z : Size) (b c : Bool) (s t u v : Now) → b ≡ c → Alike z s t → Alike z u v → Alike z (cond b s u) (cond c t v)
alike_cond z b c s t u v same a e = subst (λ d. Alike z (cond b s u) (cond d t v)) same (on b)
  where
    on : (b : Bool) → Alike z (cond b s u) (cond b t v)
    on true = a
    on false = e

module _ (z : Size) (s t : Now) (alike : Alike z s t) where
  updated_alike : (i p : ℕ) (x : Option Route) → Alike z (record { rules = s.rules; up = s.up; received = updated i p x s.received }) (record { rules = t.rules; up = t.up; received = updated i p x t.received })
  updated_alike i p x = record {
    own = alike.own;
    imports = alike.imports;
    exports = alike.exports;
    up = alike.up;
    received = λ j q h l. ap (cond (eqb j i && eqb q p) x) (alike.received j q h l);
  }

  down_alike : (i : ℕ) → Alike z (down i s) (down i t)
  down_alike i = record {
    own = alike.own;
    imports = alike.imports;
    exports = alike.exports;
    up = λ j h. ap (cond (eqb j i) false) (alike.up j h);
    received = λ j q h l. ap (cond (eqb j i) None) (alike.received j q h l);
  }

  counts_alike : (i p : ℕ) → (ltb i z.peers && (ltb p z.prefixes && s.up i)) ≡ (ltb i z.peers && (ltb p z.prefixes && t.up i))
  counts_alike i p =
      ⊎_elim
      (λ h. ap (λ b. ltb i z.peers && (ltb p z.prefixes && b)) (alike.up i (ltb-true i z.peers h)))
      (λ h. ap (λ b. b && (ltb p z.prefixes && s.up i)) h ∙ sym (ap (λ b. b && (ltb p z.prefixes && t.up i)) h))
      (cases_Bool (ltb i z.peers))

  says_alike : (i p : ℕ) (x : Option Route) → Alike z (says z i p x s) (says z i p x t)
  says_alike i p x =
      let here : Now = record { rules = s.rules; up = s.up; received = updated i p x s.received } in
      let there : Now = record { rules = t.rules; up = t.up; received = updated i p x t.received } in
      let room = ap (λ k. leb k z.capacity) (stored_alike z here there (updated_alike i p x) z.peers (omega arith)) in
      let fits = leb (stored z.peers z.prefixes (updated i p x s.received)) z.capacity in
      let fits' = leb (stored z.peers z.prefixes (updated i p x t.received)) z.capacity in
      alike_cond z (ltb i z.peers && (ltb p z.prefixes && s.up i)) (ltb i z.peers && (ltb p z.prefixes && t.up i)) (cond fits here (down i s)) (cond fits' there (down i t)) s t (counts_alike i p)
      (alike_cond z fits fits' here there (down i s) (down i t) room (updated_alike i p x) (down_alike i)) alike

all_down_alike : (z : Size) (is : List ℕ) (s t : Now) → Alike z s t → Alike z (all_down is s) (all_down is t)
unfolding all_down
all_down_alike z [] s t a = a
all_down_alike z (i ∷ is) s t a = down_alike z (all_down is s) (all_down is t) (all_down_alike z is s t a) i

step_alike : (z : Size) (e : Event) (s t : Now) → Alike z s t → Alike z (step z e s) (step z e t)
step_alike z (Announces i r) s t a = says_alike z s t a i (number r.prefix) (Some r)
step_alike z (Withdraws i p) s t a = says_alike z s t a i p None
step_alike z (Establishes i) s t a = record {
  own = a.own;
  imports = a.imports;
  exports = a.exports;
  up = λ j h. ap (cond (eqb j i) true) (a.up j h);
  received = λ j q h l. ap (cond (eqb j i) None) (a.received j q h l);
}
step_alike z (GoDown is) s t a = all_down_alike z is s t a
step_alike z (PutInForce imports exports) s t a = record { own = a.own; imports = λ i h. refl; exports = λ i h. refl; up = a.up; received = a.received }

-- the same is told where the same was and is to be held
pub row_cong : (j : ℕ) (old old' new new' : ℕ → Option Route) (m : ℕ) → ((p : ℕ) → p < m → old p ≡ old' p) → ((p : ℕ) → p < m → new p ≡ new' p) → row j old new m ≡ row j old' new' m
unfolding row
row_cong j old old' new new' zero a e = refl
row_cong j old old' new new' (suc m) a e = λ i. row_cong j old old' new new' m (λ p h. a p (omega arith)) (λ p h. e p (omega arith)) i ++ tell_if j m (a m (omega arith) i) (e m (omega arith) i)

pub updates_cong : (m : ℕ) (up up' : ℕ → Bool) (old old' new new' : Held) (n : ℕ) → ((j : ℕ) → j < n → up j ≡ up' j) → ((j p : ℕ) → j < n → p < m → up j ≡ true → old j p ≡ old' j p) → ((j p : ℕ) → j < n → p < m → new j p ≡ new' j p) → updates m up old new n ≡ updates m up' old' new' n
unfolding updates
updates_cong m up up' old old' new new' zero u a e = refl
updates_cong m up up' old old' new new' (suc n) u a e =
    let before = updates_cong m up up' old old' new new' n (λ j h. u j (omega arith)) (λ j p h. a j p (omega arith)) (λ j p h. e j p (omega arith)) in
    let here : cond (up n) (row n (old n) (new n) m) [] ≡ cond (up' n) (row n (old' n) (new' n) m) [] =
    ⊎_elim
    (λ h. ap (λ l. cond (up n) l []) (row_cong n (old n) (old' n) (new n) (new' n) m (λ p l. a n p (omega arith) l h) (λ p l. e n p (omega arith) l)) ∙ ap (λ b. cond b (row n (old' n) (new' n) m) []) (u n (omega arith)))
    (λ h. cond-false (up n) _ [] h ∙ sym (cond-false (up' n) _ [] (sym (u n (omega arith)) ∙ h)))
    (cases_Bool (up n)) in
    λ i. before i ++ here i

-- an event but the establishing of a session brings no session up
module _ (z : Size) where
  up_says : (i p : ℕ) (x : Option Route) (s : Now) (j : ℕ) → (says z i p x s).up j ≡ true → s.up j ≡ true
  up_says i p x s j =
      cond_both (ltb i z.peers && (ltb p z.prefixes && s.up i)) _ s (λ t. t.up j ≡ true → s.up j ≡ true)
      (λ _. cond_both (leb (stored z.peers z.prefixes (updated i p x s.received)) z.capacity) _ (down i s) (λ t. t.up j ≡ true → s.up j ≡ true) (λ _ h. h) (λ _ h. up_down (s.up j) h))
      (λ _ h. h)
    where
      up_down : (b : Bool) → cond (eqb j i) false b ≡ true → b ≡ true
      up_down b h = grind (arith, tests)

  up_all_down : (is : List ℕ) (s : Now) (j : ℕ) → (all_down is s).up j ≡ true → s.up j ≡ true
  unfolding all_down
  up_all_down [] s j h = h
  up_all_down (i ∷ is) s j h = up_all_down is s j (up_down ((all_down is s).up j) h)
    where
      up_down : (b : Bool) → cond (eqb j i) false b ≡ true → b ≡ true
      up_down b h = grind (arith, tests)

  -- what is held before the updates of an event go out, by what was sent and by what was intended
  module _ (rules : Rules) (es : List Event) (s : Now) (alike : Alike z s (after z rules es)) where
    held_was : (j p : ℕ) → j < z.peers → p < z.prefixes → (after z rules es).up j ≡ true → holds z rules es j p ≡ intended_in z s j p
    held_was j p h l u = exact z rules es j p h l u ∙ sym (intended_alike z s (after z rules es) alike j p h l)

    held_by_begins : (e : Event) (j p : ℕ) → j < z.peers → p < z.prefixes → (after z rules (e ∷ es)).up j ≡ true → held_after (holds z rules es) (begins e) j p ≡ held_before z e s j p
    unfolding after held_after
    held_by_begins (Announces i r) j p h l u = held_was j p h l (up_says i (number r.prefix) (Some r) (after z rules es) j u)
    held_by_begins (Withdraws i q) j p h l u = held_was j p h l (up_says i q None (after z rules es) j u)
    held_by_begins (Establishes i) j p h l u =
        ⊎_elim
        (λ e. cond-true (eqb j i) None (holds z rules es j p) e ∙ sym (cond-true (eqb j i) None (intended_in z s j p) e))
        (λ e. ap (cond (eqb j i) None) (held_was j p h l (sym (cond-false (eqb j i) true ((after z rules es).up j) e) ∙ u)))
        (cases_Bool (eqb j i))
    held_by_begins (GoDown is) j p h l u = held_was j p h l (up_all_down is (after z rules es) j u)
    held_by_begins (PutInForce imports exports) j p h l u = held_was j p h l u

-- a state that takes each step as it should keeps the promise
module _ {S : Type 0} (z : Size) (e : Event) (s t : Now) (R : S → Update → S → Type 0) (from to : S) where
  pub lift : (Sound z s → Steps z e s t R from to) → Promised z e s t R from to
  unfolding after
  lift steps rules es stands =
      let did = steps stands.sound in
      let now : Alike z t (after z rules (e ∷ es)) = alike_trans z t (step z e s) (after z rules (e ∷ es)) did.alike (step_alike z e s (after z rules es) stands.alike) in
      let us : updates z.prefixes t.up (held_before z e s) (intended_in z t) z.peers ≡ sent z rules e es =
      updates_cong z.prefixes t.up (after z rules (e ∷ es)).up (held_before z e s) (held_after nothing (history z rules es ++ begins e)) (intended_in z t) (intended_in z (after z rules (e ∷ es))) z.peers
      now.up
      (λ j p h l u. sym (held_by_begins z rules es s stands.alike e j p h l (sym (now.up j h) ∙ u)) ∙ sym (ap (λ f. f j p) (held_append nothing (history z rules es) (begins e))))
      (intended_alike z t (after z rules (e ∷ es)) now) in
      record {
        stands = record { sound = did.sound; alike = now };
        sends = subst (λ l. Chain R from l to) us did.sends;
        whole = whole z rules (e ∷ es);
        updates_are = sends z rules e es;
      }
