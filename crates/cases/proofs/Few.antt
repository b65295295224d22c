-- What is sent where all announcements are of a few prefixes. Assumes nothing.
use Rattle.std.proofs.Common.{◌≡◌, ℕ, zero, suc, ◌<◌, ◌≤◌, Bool, true, false, cond, ◌&&◌, eqb, ltb, List, [], ◌∷◌, ◌++◌, Some, None, Option, sym, refl, ap, ◌∙◌, ⊎_elim, arith}
use Rattle.cases.proofs.Room.{free_after, room_before}
use Rattle.cases.specs.Few.{place, says_freely, freely, announcements, all_of, falling, row_of, updates_of, OfFew}
use Rattle.model.proofs.Lifting.{updates_cong}
use Rattle.model.proofs.Promises.{exact}
use Rattle.model.proofs.Telling.{held_append}
use Rattle.model.specs.Model.{Size, Event, Announces, Withdraws, Establishes, GoDown, PutInForce, Now, all_down, intended_in, begins, history, holds, news, sent}
use Rattle.model.specs.Stands.{held_before}
use Rattle.model.specs.Updates.{Held, tell_if, row, updates, held_after, nothing}
use Rattle.route.specs.Numbers.{is_in}
use Rattle.route.specs.Route.{Route}
use Rattle.selection.specs.Intended.{Rules}
use Rattle.std.proofs.lemmas.Bool.{cases_Bool, cond-true, cond-false, cond_both, and_parts, or_from, ltb-true, ne_eqb, both_ways, eqb-true}
use Rattle.std.proofs.lemmas.Bool.Decides.{nat_tests as tests}
use Rattle.telling.proofs.Chains.{nothing_intended, row_skips}

-- what is held before an event's updates go out is what was intended
module _ (z : Size) (rules : Rules) (es : List Event) (room : announcements es ≤ z.capacity) where
  held_was : (j p : ℕ) → j < z.peers → p < z.prefixes → (freely z rules es).up j ≡ true → holds z rules es j p ≡ intended_in z (freely z rules es) j p
  held_was j p h l u = let same = free_after z rules es room in exact z rules es j p h l (ap (λ s. s.up j) same ∙ u) ∙ ap (λ s. intended_in z s j p) same

  up_says : (i p : ℕ) (x : Option Route) (s : Now) (j : ℕ) → (says_freely z i p x s).up j ≡ s.up j
  up_says i p x s j = cond_both (ltb i z.peers && (ltb p z.prefixes && s.up i)) _ s (λ t. t.up j ≡ s.up j) (λ _. refl) (λ _. refl)

  up_down : (is : List ℕ) (s : Now) (j : ℕ) → (all_down is s).up j ≡ true → s.up j ≡ true
  unfolding all_down
  up_down [] s j h = h
  up_down (i ∷ is) s j h = up_down is s j (was ((all_down is s).up j) h)
    where
      was : (b : Bool) → cond (eqb j i) false b ≡ true → b ≡ true
      was b h = grind (arith, tests)

  held_by_begins : (e : Event) (j p : ℕ) → j < z.peers → p < z.prefixes → (freely z rules (e ∷ es)).up j ≡ true → held_after (holds z rules es) (begins e) j p ≡ held_before z e (freely z rules es) j p
  unfolding freely held_after
  held_by_begins (Announces i r) j p h l u = held_was j p h l (sym (up_says i (place r.prefix) (Some r) (freely z rules es) j) ∙ u)
  held_by_begins (Withdraws i q) j p h l u = held_was j p h l (sym (up_says i q None (freely z rules es) j) ∙ u)
  held_by_begins (Establishes i) j p h l u =
      ⊎_elim
      (λ e. cond-true (eqb j i) None (holds z rules es j p) e ∙ sym (cond-true (eqb j i) None (intended_in z (freely z rules es) j p) e))
      (λ e. ap (cond (eqb j i) None) (held_was j p h l (sym (cond-false (eqb j i) true ((freely z rules es).up j) e) ∙ u)))
      (cases_Bool (eqb j i))
  held_by_begins (GoDown is) j p h l u = held_was j p h l (up_down is (freely z rules es) j u)
  held_by_begins (PutInForce imports exports) j p h l u = held_was j p h l u

sent_free : (z : Size) (rules : Rules) (e : Event) (es : List Event) → announcements (e ∷ es) ≤ z.capacity → sent z rules e es ≡ updates z.prefixes (freely z rules (e ∷ es)).up (held_before z e (freely z rules es)) (intended_in z (freely z rules (e ∷ es))) z.peers
sent_free z rules e es room =
    let s = freely z rules (e ∷ es) in
    let before = held_after nothing (history z rules es ++ begins e) in
    ap (λ t. news z t before) (free_after z rules (e ∷ es) room) ∙
    updates_cong z.prefixes s.up s.up before (held_before z e (freely z rules es)) (intended_in z s) (intended_in z s) z.peers (λ j h. refl)
    (λ j p h l u. ap (λ f. f j p) (held_append nothing (history z rules es) (begins e)) ∙ held_by_begins z rules es (omega (arith, room_before e es)) e j p h l u)
    (λ j p h l. refl)

-- what is not one of the prefixes has nothing
not_above : (m q : ℕ) (ps : List ℕ) → falling m ps ≡ true → m ≤ q → is_in q ps ≡ false
unfolding falling
not_above m q [] f h = refl
not_above m q (p ∷ ps) f h =
    let parts = and_parts (ltb p m) (falling p ps) f in
    let low : p < m = ltb-true p m parts.0 in
    or_from (eqb p q) (is_in q ps) (ne_eqb p q (λ e. absurd (omega arith))) (not_above p q ps parts.1 (omega arith))

row_few : (j : ℕ) (old new : ℕ → Option Route) (m : ℕ) (ps : List ℕ) → falling m ps ≡ true → ((q : ℕ) → q < m → is_in q ps ≡ false → (old q ≡ None) × (new q ≡ None)) → row j old new m ≡ row_of j old new ps
unfolding falling row row_of
row_few j old new m [] f h = row_skips j old new 0 m (omega arith) (λ q _ l. h q l refl)
row_few j old new m (p ∷ ps) f h =
    let parts = and_parts (ltb p m) (falling p ps) f in
    let low : p < m = ltb-true p m parts.0 in
    row_skips j old new (suc p) m (omega arith) (λ q a l. h q l (or_from (eqb p q) (is_in q ps) (ne_eqb p q (λ e. absurd (omega arith))) (not_above p q ps parts.1 (omega arith)))) ∙
    ap (λ us. us ++ tell_if j p (old p) (new p)) (row_few j old new p ps parts.1 (λ q l n. h q (omega arith) (or_from (eqb p q) (is_in q ps) (ne_eqb p q (λ e. absurd (omega arith))) n)))

updates_few : (m : ℕ) (ps : List ℕ) (up : ℕ → Bool) (old new : Held) (n : ℕ) → falling m ps ≡ true → ((j q : ℕ) → is_in q ps ≡ false → (old j q ≡ None) × (new j q ≡ None)) → updates m up old new n ≡ updates_of ps up old new n
unfolding updates updates_of
updates_few m ps up old new zero f h = refl
updates_few m ps up old new (suc n) f h = λ i. updates_few m ps up old new n f h i ++ cond (up n) (row_few n (old n) (new n) m ps f (λ q _. h n q) i) []

-- what nobody has announced is kept of nobody
module _ (z : Size) (rules : Rules) (ps : List ℕ) (q : ℕ) (other : is_in q ps ≡ false) where
  says_none : (i p : ℕ) (x : Option Route) (s : Now) → (p ≡ q → x ≡ None) → (k : ℕ) → s.received k q ≡ None → (says_freely z i p x s).received k q ≡ None
  says_none i p x s ne k h =
      cond_both (ltb i z.peers && (ltb p z.prefixes && s.up i)) _ s (λ t. t.received k q ≡ None)
      (λ _. cond_both (eqb k i && eqb q p) x (s.received k q) (λ y. y ≡ None) (λ b. ne (sym (eqb-true q p (and_parts (eqb k i) (eqb q p) b).1))) (λ _. h))
      (λ _. h)

  down_none : (is : List ℕ) (s : Now) (k : ℕ) → s.received k q ≡ None → (all_down is s).received k q ≡ None
  unfolding all_down
  down_none [] s k h = h
  down_none (i ∷ is) s k h = cond_both (eqb k i) None ((all_down is s).received k q) (λ y. y ≡ None) (λ _. refl) (λ _. down_none is s k h)

  none_free : (es : List Event) → all_of ps es ≡ true → (k : ℕ) → (freely z rules es).received k q ≡ None
  unfolding freely all_of
  none_free [] a k = refl
  none_free (Announces i r ∷ es) a k =
      let parts = and_parts (is_in (place r.prefix) ps) (all_of ps es) a in
      says_none i (place r.prefix) (Some r) (freely z rules es) (λ e. absurd (both_ways (is_in q ps) other (sym (ap (λ p. is_in p ps) e) ∙ parts.0))) k (none_free es parts.1 k)
  none_free (Withdraws i p ∷ es) a k = says_none i p None (freely z rules es) (λ _. refl) k (none_free es a k)
  none_free (Establishes i ∷ es) a k = cond_both (eqb k i) None ((freely z rules es).received k q) (λ y. y ≡ None) (λ _. refl) (λ _. none_free es a k)
  none_free (GoDown is ∷ es) a k = down_none is (freely z rules es) k (none_free es a k)
  none_free (PutInForce imports exports ∷ es) a k = none_free es a k

  all_before : (e : Event) (es : List Event) → all_of ps (e ∷ es) ≡ true → all_of ps es ≡ true
  unfolding all_of
  all_before (Announces i r) es a = (and_parts (is_in (place r.prefix) ps) (all_of ps es) a).1
  all_before (Withdraws i p) es a = a
  all_before (Establishes i) es a = a
  all_before (GoDown is) es a = a
  all_before (PutInForce imports exports) es a = a

  none_intended : (es : List Event) → all_of ps es ≡ true → (j : ℕ) → intended_in z (freely z rules es) j q ≡ None
  none_intended es a j = nothing_intended (freely z rules es).rules z.peers (freely z rules es).received j q (none_free es a)

  held_none : (e : Event) (s : Now) (j : ℕ) → intended_in z s j q ≡ None → held_before z e s j q ≡ None
  unfolding held_after
  held_none (Announces i r) s j h = h
  held_none (Withdraws i p) s j h = h
  held_none (Establishes i) s j h = cond_both (eqb j i) None (intended_in z s j q) (λ y. y ≡ None) (λ _. refl) (λ _. h)
  held_none (GoDown is) s j h = h
  held_none (PutInForce imports exports) s j h = h

pub of_few : OfFew
of_few ps z rules e es room f a =
    sent_free z rules e es room ∙
    updates_few z.prefixes ps (freely z rules (e ∷ es)).up (held_before z e (freely z rules es)) (intended_in z (freely z rules (e ∷ es))) z.peers f
    (λ j q n. (held_none z rules ps q n e (freely z rules es) j (none_intended z rules ps q n es (all_before z rules ps q n e es a) j), none_intended z rules ps q n (e ∷ es) a j))
