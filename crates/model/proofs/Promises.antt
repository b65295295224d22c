-- What is promised of the whole. Assumes nothing.
use Rattle.std.proofs.Common.{◌≡◌, ℕ, ◌<◌, Bool, true, false, cond, ◌&&◌, eqb, ltb, leb, List, [], ◌∷◌, ◌++◌, Some, None, Option, sym, refl, ap, ◌∙◌, subst, append_assoc, append-nil, arith}
use Rattle.model.proofs.Capacity.{in_capacity}
use Rattle.model.proofs.Ordering.{all_at, ToUp, updates_to_up, updates_ordered}
use Rattle.model.proofs.Telling.{held_append, updates_held, Fresh, fresh_append, fresh_at, updates_fresh}
use Rattle.model.specs.Model.{Size, Event, Announces, Withdraws, Establishes, GoDown, PutInForce, Now, down, all_down, says, step, after, intended_in, begins, history, holds, sent}
use Rattle.model.specs.Promise.{At, Whole, Sends}
use Rattle.route.specs.Same.{same_option}
use Rattle.model.specs.Updates.{Update, Held, Sent, tells, held_after, nothing}
use Rattle.prefix.specs.Prefix.{number}
use Rattle.rib.specs.Received.{updated, stored}
use Rattle.route.specs.Numbers.{is_in}
use Rattle.route.specs.Route.{Route}
use Rattle.selection.proofs.Best.{laws as selection}
use Rattle.selection.specs.Intended.{Rules, intended}
use Rattle.std.proofs.lemmas.Bool.{cond-true, cond_both, both_ways, and_parts, and_from, lt-ltb, ltb-true}
use Rattle.std.proofs.lemmas.Bool.Decides.{nat_tests as tests}

module _ (z : Size) (rules : Rules) where
  -- what is held as an event's updates go out
  abbrev before : Event → List Event → Held
  before e es = held_after nothing (history z rules es ++ begins e)

  holds_after : (e : Event) (es : List Event) → holds z rules (e ∷ es) ≡ held_after (before e es) (tells (sent z rules e es))
  unfolding history
  holds_after e es =
      ap (held_after nothing) (sym (append_assoc (history z rules es) (begins e) (tells (sent z rules e es)))) ∙ held_append nothing (history z rules es ++ begins e) (tells (sent z rules e es))

  pub holds_step : (e : Event) (es : List Event) (j p : ℕ) → holds z rules (e ∷ es) j p ≡ cond (ltb j z.peers && ((after z rules (e ∷ es)).up j && ltb p z.prefixes)) (intended_in z (after z rules (e ∷ es)) j p) (before e es j p)
  holds_step e es j p =
      ap (λ f. f j p) (holds_after e es) ∙ updates_held z.prefixes (after z rules (e ∷ es)).up (before e es) (intended_in z (after z rules (e ∷ es))) z.peers (before e es) (λ k q. refl) j p

  pub exact : (es : List Event) (j p : ℕ) → j < z.peers → p < z.prefixes → (after z rules es).up j ≡ true → holds z rules es j p ≡ intended_in z (after z rules es) j p
  unfolding after
  exact [] j p a b u = absurd (both_ways false refl u)
  exact (e ∷ es) j p a b u =
      holds_step e es j p ∙ cond-true (ltb j z.peers && ((after z rules (e ∷ es)).up j && ltb p z.prefixes)) _ _ (and_from (ltb j z.peers) _ (lt-ltb j z.peers a) (and_from ((after z rules (e ∷ es)).up j) _ u (lt-ltb p z.prefixes b)))

  fresh_begins : (held : Held) (e : Event) → Fresh held (begins e)
  unfolding Fresh
  fresh_begins held (Announces i r) = tt
  fresh_begins held (Withdraws i p) = tt
  fresh_begins held (Establishes i) = tt
  fresh_begins held (GoDown is) = tt
  fresh_begins held (PutInForce imports exports) = tt

  fresh_history : (es : List Event) → Fresh nothing (history z rules es)
  unfolding history Fresh
  fresh_history [] = tt
  fresh_history (e ∷ es) =
      subst (Fresh nothing) (append_assoc (history z rules es) (begins e) (tells (sent z rules e es)))
      (fresh_append nothing (history z rules es ++ begins e) (tells (sent z rules e es))
      (fresh_append nothing (history z rules es) (begins e) (fresh_history es) (fresh_begins (held_after nothing (history z rules es)) e))
      (updates_fresh z.prefixes (after z rules (e ∷ es)).up (before e es) (intended_in z (after z rules (e ∷ es))) z.peers (before e es) (λ k q. refl)))

  only_new : (es : List Event) (front : List Sent) (u : Update) → At (history z rules es) front u → same_option u.route (held_after nothing front u.peer u.prefix) ≡ false
  only_new es front u at = fresh_at nothing front at.behind u (subst (Fresh nothing) at.whole (fresh_history es))

  -- what a peer says changes nothing, or is kept, or takes its session down
  says_cases : (P : Now → Type 0) (i p : ℕ) (x : Option Route) (s : Now) → P s → P (record { rules = s.rules; up = s.up; received = updated i p x s.received }) → (s.up i ≡ true → P (down i s)) → P (says z i p x s)
  says_cases P i p x s same kept gone =
      cond_both (ltb i z.peers && (ltb p z.prefixes && s.up i)) _ s P
      (λ counts. cond_both (leb (stored z.peers z.prefixes (updated i p x s.received)) z.capacity) _ (down i s) P (λ _. kept) (λ _. gone (and_parts (ltb p z.prefixes) (s.up i) (and_parts (ltb i z.peers) _ counts).1).1))
      (λ _. same)

  -- the own network stays
  own_down : (is : List ℕ) (s : Now) → (all_down is s).rules.own ≡ s.rules.own
  unfolding all_down
  own_down [] s = refl
  own_down (i ∷ is) s = own_down is s

  own_step : (e : Event) (s : Now) → (step z e s).rules.own ≡ s.rules.own
  own_step (Announces i r) s = says_cases (λ t. t.rules.own ≡ s.rules.own) i (number r.prefix) (Some r) s refl refl (λ _. refl)
  own_step (Withdraws i p) s = says_cases (λ t. t.rules.own ≡ s.rules.own) i p None s refl refl (λ _. refl)
  own_step (Establishes i) s = refl
  own_step (GoDown is) s = own_down is s
  own_step (PutInForce imports exports) s = refl

  own_stays : (es : List Event) → (after z rules es).rules.own ≡ rules.own
  unfolding after
  own_stays [] = refl
  own_stays (e ∷ es) = own_step e (after z rules es) ∙ own_stays es

  -- all that goes into what is intended of prefix q is as it was
  record SameOf (q : ℕ) (s t : Now) : Type 0 where
    rules_same : t.rules ≡ s.rules
    up_same : (j : ℕ) → t.up j ≡ s.up j
    received_same : (k : ℕ) → t.received k q ≡ s.received k q

  says_other : (i p q : ℕ) (x : Option Route) (s : Now) → (p ≡ q → ⊥) → (says z i p x s).up i ≡ s.up i → SameOf q s (says z i p x s)
  says_other i p q x s ne =
      says_cases (λ t. t.up i ≡ s.up i → SameOf q s t) i p x s
      (λ _. record { rules_same = refl; up_same = λ j. refl; received_same = λ k. refl })
      (λ _. record { rules_same = refl; up_same = λ j. refl; received_same = λ k. elsewhere k (s.received k q) })
      (λ was e. absurd (both_ways (s.up i) (sym e ∙ taken_down_lem (s.up i)) was))
    where
      elsewhere : (k : ℕ) (y : Option Route) → cond (eqb k i && eqb q p) x y ≡ y
      elsewhere k y = grind (arith, tests)

      taken_down_lem : (b : Bool) → cond (eqb i i) false b ≡ false
      taken_down_lem b = grind (arith, tests)

  -- where nothing changed that goes into it, what is held stays
  stays : (e : Event) (es : List Event) (j q : ℕ) → begins e ≡ [] → SameOf q (after z rules es) (after z rules (e ∷ es)) → holds z rules (e ∷ es) j q ≡ holds z rules es j q
  stays e es j q none same =
      let held : before e es j q ≡ holds z rules es j q = ap (λ b. held_after nothing (history z rules es ++ b) j q) none ∙ ap (λ l. held_after nothing l j q) (append-nil (history z rules es)) in
      let now : intended_in z (after z rules (e ∷ es)) j q ≡ intended_in z (after z rules es) j q =
      ap (λ r. intended r z.peers (after z rules (e ∷ es)).received j q) same.rules_same ∙ selection.other_prefixes (after z rules es).rules z.peers (after z rules (e ∷ es)).received (after z rules es).received j q same.received_same in
      holds_step e es j q ∙
      cond_both (ltb j z.peers && ((after z rules (e ∷ es)).up j && ltb q z.prefixes)) _ (before e es j q) (λ x. x ≡ holds z rules es j q)
      (λ t.
      let one = and_parts (ltb j z.peers) _ t in
      let two = and_parts ((after z rules (e ∷ es)).up j) (ltb q z.prefixes) one.1 in
      now ∙ sym (exact es j q (ltb-true j z.peers one.0) (ltb-true q z.prefixes two.1) (sym (same.up_same j) ∙ two.0)))
      (λ _. held)

  other_prefixes : (es : List Event) (i q j : ℕ) (r : Route) → (number r.prefix ≡ q → ⊥) → (after z rules (Announces i r ∷ es)).up i ≡ (after z rules es).up i → holds z rules (Announces i r ∷ es) j q ≡ holds z rules es j q
  unfolding after
  other_prefixes es i q j r ne e = stays (Announces i r) es j q refl (says_other i (number r.prefix) q (Some r) (after z rules es) ne e)

  other_withdrawn : (es : List Event) (i p q j : ℕ) → (p ≡ q → ⊥) → (after z rules (Withdraws i p ∷ es)).up i ≡ (after z rules es).up i → holds z rules (Withdraws i p ∷ es) j q ≡ holds z rules es j q
  unfolding after
  other_withdrawn es i p q j ne e = stays (Withdraws i p) es j q refl (says_other i p q None (after z rules es) ne e)

  pub whole : (es : List Event) → Whole z rules es
  whole es = record {
    exact = exact es;
    best = λ p c e. selection.is_best (after z rules es).rules (after z rules es).received p z.peers c e;
    no_ring = λ p c e. subst (λ own. is_in own c.route.path ≡ false) (own_stays es) (selection.no_ring (after z rules es).rules c.peer ((after z rules es).received c.peer p) c.route (selection.is_best (after z rules es).rules (after z rules es).received p z.peers c e).is_imported);
    not_back = λ j p y e. selection.not_back (after z rules es).rules z.peers (after z rules es).received j p y e;
    only_new = only_new es;
    other_prefixes = other_prefixes es;
    other_withdrawn = other_withdrawn es;
    in_capacity = in_capacity z rules es;
  }

  pub sends : (e : Event) (es : List Event) → Sends z rules e es
  sends e es = record {
    ordered = updates_ordered z.prefixes (after z rules (e ∷ es)).up (before e es) (intended_in z (after z rules (e ∷ es))) z.peers;
    only_up = λ k u h at. all_at (ToUp (after z rules (e ∷ es)).up z.peers) (sent z rules e es) k u (updates_to_up z.prefixes (after z rules (e ∷ es)).up (before e es) (intended_in z (after z rules (e ∷ es))) z.peers) h at;
  }
