-- Each inner step is a step of the model. Assumes nothing.
use Rattle.std.proofs.Common.{◌≡◌, ℕ, zero, suc, ◌+◌, ◌-◌, ◌<◌, ◌≤◌, Bool, true, false, cond, not, ◌&&◌, eqb, ltb, leb, [], ◌∷◌, None, Option, sym, refl, ap, ◌∙◌, subst, ⊎_elim, arith}
use Rattle.model.proofs.Capacity.{stored_more}
use Rattle.model.proofs.Lifting.{row_cong, updates_cong}
use Rattle.model.specs.Chain.{Chain}
use Rattle.model.specs.Model.{Size, Event, Establishes, PutInForce, Now, down, all_down, says, step, intended_in, begins}
use Rattle.model.specs.Stands.{Alike, Sound, held_before, Steps}
use Rattle.model.specs.Updates.{Update, row, updates, held_after}
use Rattle.policy.specs.Policy.{Policy}
use Rattle.prefix.specs.Prefix.{count}
use Rattle.rib.specs.Received.{Received, updated, heard, is_route, count_of, stored, capacity, most_peers}
use Rattle.route.specs.Route.{Route}
use Rattle.selection.proofs.Best.{laws as selection}
use Rattle.selection.specs.Intended.{Rules, offered, selected, intended}
use Rattle.server.proofs.Rows.{updates_none, updates_of_prefix, updates_to_peer}
use Rattle.server.specs.Facts.{Kept, nobody, everybody}
use Rattle.server.specs.Meant.{size_of, members_below}
use Rattle.std.proofs.lemmas.Bool.{cases_Bool, cases_eq, cases_lt, cond-true, cond-false, and_from, lt-ltb, leb-true, both_ways, eq-eqb, ne_eqb}
use Rattle.std.proofs.lemmas.Bool.Decides.{nat_tests as tests}
use Rattle.telling.proofs.Chains.{nothing_intended}
use Rattle.telling.specs.Steps.{of_prefix, intended_by}

pub alike_refl : (z : Size) (s : Now) → Alike z s s
alike_refl z s = record { own = refl; imports = λ i h. refl; exports = λ i h. refl; up = λ i h. refl; received = λ i p h l. refl }

-- the rules are as they were
pub record Unmoved (s t : Now) : Type 0 where
  pub own : t.rules.own ≡ s.rules.own
  pub imports : (i : ℕ) → t.rules.imports i ≡ s.rules.imports i
  pub exports : (i : ℕ) → t.rules.exports i ≡ s.rules.exports i

-- an event that begins no session
pub record Plain (e : Event) : Type 0 where
  pub begins_nothing : begins e ≡ []

before_plain : (z : Size) (e : Event) (s : Now) → Plain e → (j p : ℕ) → held_before z e s j p ≡ intended_in z s j p
unfolding held_after
before_plain z e s plain j p = ap (λ b. held_after (intended_in z s) b j p) plain.begins_nothing

-- a word that doesn't count does nothing
pub ignored : {S : Type 0} (R : S → Update → S → Type 0) (z : Size) (e : Event) (s : Now) (from : S) → Plain e → step z e s ≡ s → Sound z s → Steps z e s s R from from
unfolding Chain
ignored R z e s from plain same sound = record {
  sound = sound;
  alike = subst (Alike z s) (sym same) (alike_refl z s);
  sends = subst (λ us. Chain R from us from) (sym (updates_none z.prefixes s.up (held_before z e s) (intended_in z s) z.peers (before_plain z e s plain))) refl;
}

-- what is kept of the peers that there are is all that is kept
count_none : (m : ℕ) (g : ℕ → Option Route) → ((p : ℕ) → g p ≡ None) → count_of m (λ p. is_route (g p)) ≡ 0
unfolding count_of
count_none zero g h = refl
count_none (suc m) g h = let here = ap is_route (h m) in let more = count_none m g h in grind arith

stored_rest : (n k m : ℕ) (f : Received) → ((i p : ℕ) → n ≤ i → f i p ≡ None) → stored (k + n) m f ≡ stored n m f
unfolding stored
stored_rest n zero m f h = let e : 0 + n ≡ n = omega arith in ap (λ j. stored j m f) e
stored_rest n (suc k) m f h =
    let e : suc k + n ≡ suc (k + n) = omega arith in
    let more = stored_rest n k m f h in
    let none = count_none m (f (k + n)) (λ p. h (k + n) p (omega arith)) in
    ap (λ j. stored j m f) e ∙ added (count_of m (λ p. is_route (f (k + n) p))) (stored (k + n) m f) (stored n m f) none more
  where
    added : (a b c : ℕ) → a ≡ 0 → b ≡ c → a + b ≡ c
    added a b c x y = omega arith

pub stored_all : (n m : ℕ) (f : Received) → n ≤ most_peers → ((i p : ℕ) → n ≤ i → f i p ≡ None) → stored most_peers m f ≡ stored n m f
stored_all n m f h none = let e : most_peers - n + n ≡ most_peers = omega arith in ap (λ j. stored j m f) (sym e) ∙ stored_rest n (most_peers - n) m f none

-- no announcement of one who isn't there
pub outside_none : (z : Size) (s : Now) → Sound z s → (i p : ℕ) → z.peers ≤ i → s.received i p ≡ None
outside_none z s sound i p h = sound.silent i p (sound.outside i h)

-- where everybody counts
by_nobody : (rules : Rules) (n : ℕ) (f : Received) (j p : ℕ) → intended_by rules n nobody f j p ≡ intended rules n f j p
unfolding intended_by nobody
by_nobody rules n f j p = refl

module _ {S : Type 0} (R : S → Update → S → Type 0) (n : ℕ) (e : Event) (s : Now) (from to : S) (sound : Sound (size_of n) s) where
  -- a word is kept
  module _ (plain : Plain e) (i p : ℕ) (x : Option Route) (is_IsWord : step (size_of n) e s ≡ says (size_of n) i p x s) (there : i < n) (prefix-there : p < count) (is_up : s.up i ≡ true) (room : leb (stored n count (updated i p x s.received)) capacity ≡ true) where
    abbrev pub kept_now : Now
    kept_now = record { rules = s.rules; up = s.up; received = updated i p x s.received }

    kept_step : step (size_of n) e s ≡ kept_now
    kept_step =
        is_IsWord ∙ cond-true (ltb i n && (ltb p count && s.up i)) _ s (and_from (ltb i n) _ (lt-ltb i n there) (and_from (ltb p count) (s.up i) (lt-ltb p count prefix-there) is_up)) ∙ cond-true (leb (stored n count (updated i p x s.received)) capacity) _ (down i s) room

    elsewhere : (k q : ℕ) → (q ≡ p → ⊥) → s.received k q ≡ updated i p x s.received k q
    elsewhere k q ne = unlike (s.received k q)
      where
        unlike : (y : Option Route) → y ≡ cond (eqb k i && eqb q p) x y
        unlike y = grind (arith, tests)

    kept_sound : Sound (size_of n) kept_now
    kept_sound = record {
      few = sound.few;
      outside = sound.outside;
      silent = λ k q h. ⊎_elim (λ same. absurd (both_ways (s.up k) h (ap s.up same ∙ is_up))) (λ other. unlike k q other (s.received k q) (sound.silent k q h)) (cases_eq k i);
      fits = leb-true _ capacity room;
    }
      where
        unlike : (k q : ℕ) → (k ≡ i → ⊥) → (y : Option Route) → y ≡ None → cond (eqb k i && eqb q p) x y ≡ None
        unlike k q ne y h = grind (arith, tests)

    pub kept_steps : (t : Now) → t ≡ kept_now → Kept R s.rules n s.up i p x s.received t.received from to → Steps (size_of n) e s t R from to
    kept_steps t is facts =
        let sends = subst (λ f. Chain R from (of_prefix p s.up s.rules.exports (offered s.rules.own (selected s.rules s.received p n)) (offered s.rules.own (selected s.rules f p n)) n) to) (ap (λ u. u.received) is) facts.sends in
        let us = updates_of_prefix count p s.up s.rules.exports (offered s.rules.own (selected s.rules s.received p n)) (offered s.rules.own (selected s.rules (updated i p x s.received) p n)) (held_before (size_of n) e s) (intended_in (size_of n) kept_now) n prefix-there (λ j. before_plain (size_of n) e s plain j p) (λ j. refl) (λ j q ne. before_plain (size_of n) e s plain j q ∙ selection.other_prefixes s.rules n s.received (updated i p x s.received) j q (λ k. elsewhere k q ne)) in
        subst (λ u. Steps (size_of n) e s u R from to) (sym is) (record {
          sound = kept_sound;
          alike = subst (Alike (size_of n) kept_now) (sym kept_step) (alike_refl (size_of n) kept_now);
          sends = subst (λ l. Chain R from l to) us sends;
        })

  -- sessions of a set are down
  module _ (plain : Plain e) (set : ℕ → Bool) where
    abbrev pub silenced_now : Now
    silenced_now = record { rules = s.rules; up = λ j. s.up j && not (set j); received = λ j q. cond (ltb j n && set j) None (s.received j q) }

    silenced_heard : (k q : ℕ) → heard set s.received k q ≡ cond (ltb k n && set k) None (s.received k q)
    silenced_heard k q =
        ⊎_elim (λ h. inside (s.received k q) h) (λ h. past (s.received k q) (outside_none (size_of n) s sound k q h)) (cases_lt k n)
      where
        inside : (y : Option Route) → k < n → cond (set k) None y ≡ cond (ltb k n && set k) None y
        inside y h = grind (arith, tests)

        past : (y : Option Route) → y ≡ None → cond (set k) None y ≡ cond (ltb k n && set k) None y
        past y h = grind (arith, tests)

    silenced_sound : Sound (size_of n) silenced_now
    silenced_sound = record {
      few = sound.few;
      outside = λ k h. ap (λ b. b && not (set k)) (sound.outside k h);
      silent = λ k q h. ⊎_elim (λ u. gone k (set k) (s.received k q) (s.up k) u h (λ l. outside_none (size_of n) s sound k q l)) (λ u. still k (s.received k q) (sound.silent k q u)) (cases_Bool (s.up k));
      fits = omega (arith, sound.fits, stored_more n count (λ j q. cond (ltb j n && set j) None (s.received j q)) s.received (λ j q. less j (s.received j q)));
    }
      where
        gone : (k : ℕ) (b : Bool) (y : Option Route) (u : Bool) → u ≡ true → (u && not b) ≡ false → (n ≤ k → y ≡ None) → cond (ltb k n && b) None y ≡ None
        gone k b y u h g o = ⊎_elim (λ l. grind (arith, tests)) (λ l. let none = o l in grind (arith, tests)) (cases_lt k n)

        still : (k : ℕ) (y : Option Route) → y ≡ None → cond (ltb k n && set k) None y ≡ None
        still k y h = grind (arith, tests)

        less : (j : ℕ) (y : Option Route) → is_route (cond (ltb j n && set j) None y) ≡ true → is_route y ≡ true
        less j y h = grind (arith, tests)

    pub silenced_steps : (t : Now) → t ≡ silenced_now → Alike (size_of n) silenced_now (step (size_of n) e s) → Chain R from (updates count t.up (intended_by s.rules n nobody s.received) (intended_by s.rules n set s.received) n) to → Steps (size_of n) e s t R from to
    unfolding intended_by
    silenced_steps t is alike sends =
        let us = updates_cong count t.up silenced_now.up (intended_by s.rules n nobody s.received) (held_before (size_of n) e s) (intended_by s.rules n set s.received) (intended_in (size_of n) silenced_now) n (λ j h. ap (λ u. u.up j) is) (λ j p h l u. by_nobody s.rules n s.received j p ∙ sym (before_plain (size_of n) e s plain j p)) (λ j p h l. selection.other_prefixes s.rules n (heard set s.received) silenced_now.received j p (λ k. silenced_heard k p)) in
        subst (λ u. Steps (size_of n) e s u R from to) (sym is) (record { sound = silenced_sound; alike = alike; sends = subst (λ l. Chain R from l to) us sends })

  -- a session comes up
  module _ (i : ℕ) (is-event : e ≡ Establishes i) (there : i < n) (was_down : s.up i ≡ false) where
    abbrev pub welcomed_now : Now
    welcomed_now = record { rules = s.rules; up = λ j. cond (eqb j i) (ltb i most_peers) (s.up j); received = s.received }

    nothing_held : (p : ℕ) → intended_by s.rules n everybody s.received i p ≡ None
    unfolding intended_by everybody
    nothing_held p =
        nothing_intended s.rules n (heard everybody s.received) i p
        (λ k. ⊎_elim (λ h. within k (s.received k p) h) (λ h. past k (s.received k p) (outside_none (size_of n) s sound k p (omega (arith, sound.few)))) (cases_lt k most_peers))
      where
        within : (k : ℕ) (y : Option Route) → k < most_peers → cond (ltb k most_peers) None y ≡ None
        within k y h = grind (arith, tests)

        past : (k : ℕ) (y : Option Route) → y ≡ None → cond (ltb k most_peers) None y ≡ None
        past k y h = grind (arith, tests)

    is_there : ltb i most_peers ≡ true
    is_there = lt-ltb i most_peers (omega (arith, sound.few))

    welcomed_sound : Sound (size_of n) welcomed_now
    welcomed_sound = record {
      few = sound.few;
      outside = λ k h. still k (s.up k) (sound.outside k h) h;
      silent = λ k q h. ⊎_elim (λ same. ap (λ j. s.received j q) same ∙ sound.silent i q was_down) (λ other. sound.silent k q (unlike k (s.up k) other h)) (cases_eq k i);
      fits = sound.fits;
    }
      where
        still : (k : ℕ) (b : Bool) → b ≡ false → n ≤ k → cond (eqb k i) (ltb i most_peers) b ≡ false
        still k b h l = grind (arith, tests)

        unlike : (k : ℕ) (b : Bool) → (k ≡ i → ⊥) → cond (eqb k i) (ltb i most_peers) b ≡ false → b ≡ false
        unlike k b ne h = grind (arith, tests)

    welcomed_alike : Alike (size_of n) welcomed_now (step (size_of n) (Establishes i) s)
    welcomed_alike = record {
      own = refl;
      imports = λ k h. refl;
      exports = λ k h. refl;
      up = λ k h. ap (λ b. cond (eqb k i) b (s.up k)) is_there;
      received = λ k q h l. ⊎_elim (λ same. ap (λ j. s.received j q) same ∙ sound.silent i q was_down ∙ sym (cond-true (eqb k i) None (s.received k q) (eq-eqb k i same))) (λ other. sym (cond-false (eqb k i) None (s.received k q) (ne_eqb k i other))) (cases_eq k i);
    }

    welcomed_held : (j p : ℕ) → held_before (size_of n) (Establishes i) s j p ≡ cond (eqb j i) None (intended_in (size_of n) s j p)
    unfolding held_after
    welcomed_held j p = refl

    pub welcomed_steps : (t : Now) → t ≡ welcomed_now → Chain R from (row i (intended_by s.rules n everybody s.received i) (intended_by s.rules n nobody s.received i) count) to → Steps (size_of n) e s t R from to
    welcomed_steps t is sends =
        let old = held_before (size_of n) (Establishes i) s in
        let new = intended_in (size_of n) welcomed_now in
        let begun = row_cong i (intended_by s.rules n everybody s.received i) (old i) (intended_by s.rules n nobody s.received i) (new i) count (λ p l. nothing_held p ∙ sym (welcomed_held i p ∙ cond-true (eqb i i) None (intended_in (size_of n) s i p) (eq-eqb i i refl))) (λ p l. by_nobody s.rules n s.received i p) in
        let us = updates_to_peer count i welcomed_now.up old new n there (cond-true (eqb i i) (ltb i most_peers) (s.up i) (eq-eqb i i refl) ∙ is_there) (λ j q ne h l. welcomed_held j q ∙ cond-false (eqb j i) None (intended_in (size_of n) s j q) (ne_eqb j i ne)) in
        subst (λ v. Steps (size_of n) v s t R from to) (sym is-event)
        (subst (λ u. Steps (size_of n) (Establishes i) s u R from to) (sym is) (record { sound = welcomed_sound; alike = welcomed_alike; sends = subst (λ l. Chain R from l to) (begun ∙ sym us) sends }))

  -- other policies are in force
  module _ (imports exports : ℕ → Policy) (is-event : e ≡ PutInForce imports exports) where
    abbrev pub replaced_now : Now
    replaced_now = record { rules = record { own = s.rules.own; imports = imports; exports = exports }; up = s.up; received = s.received }

    replaced_sound : Sound (size_of n) replaced_now
    replaced_sound = record { few = sound.few; outside = sound.outside; silent = sound.silent; fits = sound.fits }

    pub replaced_steps : (t : Now) → t ≡ replaced_now → Chain R from (updates count s.up (intended_by s.rules n nobody s.received) (intended_by (record { own = s.rules.own; imports = imports; exports = exports }) n nobody s.received) n) to → Steps (size_of n) e s t R from to
    replaced_steps t is sends =
        let us = updates_cong count s.up s.up (intended_by s.rules n nobody s.received) (held_before (size_of n) (PutInForce imports exports) s) (intended_by replaced_now.rules n nobody s.received) (intended_in (size_of n) replaced_now) n (λ j h. refl) (λ j p h l u. by_nobody s.rules n s.received j p ∙ sym (before_plain (size_of n) (PutInForce imports exports) s (record { begins_nothing = refl }) j p)) (λ j p h l. by_nobody replaced_now.rules n s.received j p) in
        subst (λ v. Steps (size_of n) v s t R from to) (sym is-event)
        (subst (λ u. Steps (size_of n) (PutInForce imports exports) s u R from to) (sym is) (record { sound = replaced_sound; alike = alike_refl (size_of n) replaced_now; sends = subst (λ l. Chain R from l to) us sends }))

-- the sessions of a set, by the model's list
module _ (s : Now) (set : ℕ → Bool) where
  members_up : (n j : ℕ) → (all_down (members_below n set) s).up j ≡ cond (ltb j n && set j) false (s.up j)
  unfolding members_below all_down
  members_up zero j = none (s.up j)
    where
      none : (b : Bool) → b ≡ cond (ltb j 0 && set j) false b
      none b = grind (arith, tests)
  members_up (suc n) j =
      ⊎_elim
      (λ h. ap (λ l. (all_down l s).up j) (cond-true (set n) (n ∷ members_below n set) (members_below n set) h) ∙ ap (cond (eqb j n) false) (members_up n j) ∙ joined (s.up j) h)
      (λ h. ap (λ l. (all_down l s).up j) (cond-false (set n) (n ∷ members_below n set) (members_below n set) h) ∙ members_up n j ∙ passed (s.up j) h)
      (cases_Bool (set n))
    where
      joined : (b : Bool) → set n ≡ true → cond (eqb j n) false (cond (ltb j n && set j) false b) ≡ cond (ltb j (suc n) && set j) false b
      joined b h = grind (arith, tests)

      passed : (b : Bool) → set n ≡ false → cond (ltb j n && set j) false b ≡ cond (ltb j (suc n) && set j) false b
      passed b h = grind (arith, tests)

  members_received : (n j q : ℕ) → (all_down (members_below n set) s).received j q ≡ cond (ltb j n && set j) None (s.received j q)
  unfolding members_below all_down
  members_received zero j q = none (s.received j q)
    where
      none : (y : Option Route) → y ≡ cond (ltb j 0 && set j) None y
      none y = grind (arith, tests)
  members_received (suc n) j q =
      ⊎_elim
      (λ h. ap (λ l. (all_down l s).received j q) (cond-true (set n) (n ∷ members_below n set) (members_below n set) h) ∙ ap (cond (eqb j n) None) (members_received n j q) ∙ joined (s.received j q) h)
      (λ h. ap (λ l. (all_down l s).received j q) (cond-false (set n) (n ∷ members_below n set) (members_below n set) h) ∙ members_received n j q ∙ passed (s.received j q) h)
      (cases_Bool (set n))
    where
      joined : (y : Option Route) → set n ≡ true → cond (eqb j n) None (cond (ltb j n && set j) None y) ≡ cond (ltb j (suc n) && set j) None y
      joined y h = grind (arith, tests)

      passed : (y : Option Route) → set n ≡ false → cond (ltb j n && set j) None y ≡ cond (ltb j (suc n) && set j) None y
      passed y h = grind (arith, tests)

  members_rules : (n : ℕ) → (all_down (members_below n set) s).rules ≡ s.rules
  unfolding members_below all_down
  members_rules zero = refl
  members_rules (suc n) =
      ⊎_elim
      (λ h. ap (λ l. (all_down l s).rules) (cond-true (set n) (n ∷ members_below n set) (members_below n set) h) ∙ members_rules n)
      (λ h. ap (λ l. (all_down l s).rules) (cond-false (set n) (n ∷ members_below n set) (members_below n set) h) ∙ members_rules n)
      (cases_Bool (set n))

  pub members_alike : (n : ℕ) → Alike (size_of n) (record { rules = s.rules; up = λ j. s.up j && not (set j); received = λ j q. cond (ltb j n && set j) None (s.received j q) }) (all_down (members_below n set) s)
  members_alike n = record {
    own = sym (ap (λ r. r.own) (members_rules n));
    imports = λ i h. sym (ap (λ r. r.imports i) (members_rules n));
    exports = λ i h. sym (ap (λ r. r.exports i) (members_rules n));
    up = λ j h. taken j (s.up j) h ∙ sym (members_up n j);
    received = λ j q h l. sym (members_received n j q);
  }
    where
      taken : (j : ℕ) (b : Bool) → j < n → (b && not (set j)) ≡ cond (ltb j n && set j) false b
      taken j b h = grind (arith, tests)

-- a word for which there is no room takes its peer's session down
pub no_room_alike : (n : ℕ) (s : Now) (i p : ℕ) (x : Option Route) (set : ℕ → Bool) → ((j : ℕ) → set j ≡ (eqb j i && ltb i most_peers)) → n ≤ most_peers → i < n → p < count → s.up i ≡ true → leb (stored n count (updated i p x s.received)) capacity ≡ false → Alike (size_of n) (record { rules = s.rules; up = λ j. s.up j && not (set j); received = λ j q. cond (ltb j n && set j) None (s.received j q) }) (says (size_of n) i p x s)
no_room_alike n s i p x set only few there prefix-there is_up full =
    let gone = cond-true (ltb i n && (ltb p count && s.up i)) (cond (leb (stored n count (updated i p x s.received)) capacity) (record { rules = s.rules; up = s.up; received = updated i p x s.received }) (down i s)) s (and_from (ltb i n) _ (lt-ltb i n there) (and_from (ltb p count) (s.up i) (lt-ltb p count prefix-there) is_up)) ∙ cond-false (leb (stored n count (updated i p x s.received)) capacity) _ (down i s) full in
    subst (Alike (size_of n) _) (sym gone) (record {
      own = refl;
      imports = λ k h. refl;
      exports = λ k h. refl;
      up = λ j h. taken j (s.up j) (set j) (only j);
      received = λ j q h l. emptied j (s.received j q) (set j) (only j) h;
    })
  where
    taken : (j : ℕ) (b c : Bool) → c ≡ (eqb j i && ltb i most_peers) → (b && not c) ≡ cond (eqb j i) false b
    taken j b c e = grind (arith, tests)

    emptied : (j : ℕ) (y : Option Route) (c : Bool) → c ≡ (eqb j i && ltb i most_peers) → j < n → cond (ltb j n && c) None y ≡ cond (eqb j i) None y
    emptied j y c e h = grind (arith, tests)
