-- All that the server sends stands in its place. Assumes nothing.
use Rattle.std.proofs.Common.{◌≡◌, ℕ, zero, suc, Bool, cond, ◌&&◌, eqb, ltb, leb, List, [], ◌∷◌, ◌++◌, length, Some, None, Option, sym, refl, ap, ◌∙◌, arith}
use Rattle.hearing.specs.Laws.{PlacedLaws}
use Rattle.hearing.specs.Placed.{Placed, AllPlaced}
use Rattle.model.specs.Model.{Size, Event, Announces, Withdraws, Establishes, GoDown, PutInForce, Now, down, all_down, says, step, after, intended_in, sent}
use Rattle.model.specs.Rows.{sent_all}
use Rattle.model.specs.Updates.{Update, Held, tell_if, row, updates}
use Rattle.policy.proofs.Verdicts.{laws as policy_laws}
use Rattle.policy.specs.Policy.{Policy, evaluate}
use Rattle.prefix.specs.Prefix.{number}
use Rattle.rib.specs.Received.{Received, updated, cleared, stored}
use Rattle.route.specs.Numbers.{is_in}
use Rattle.route.specs.Route.{Route, with_local_pref, with_med, with_path}
use Rattle.route.specs.Same.{same_option}
use Rattle.selection.proofs.Best.{laws as selection_laws}
use Rattle.selection.specs.Intended.{Rules, Candidate, unless_ring, imported, selected, offered, unpreferred, exported_to, intended}
use Rattle.std.proofs.lemmas.Bool.{cond_both, and_parts, eqb-true}

some_none : (r : Route) → None ≡ Some r → ⊥
some_none r e = let never : ◌≡◌ {A = ℕ} 0 1 = cc in omega arith

-- what is said of a prefix is a route of that prefix, or none
Of : ℕ → Option Route → Type 0
Of p x = (r : Route) → x ≡ Some r → number r.prefix ≡ p

-- every announcement is kept under its own prefix
Own : Received → Type 0
Own f = (i p : ℕ) (r : Route) → f i p ≡ Some r → number r.prefix ≡ p

own_updated : (i p : ℕ) (x : Option Route) (f : Received) → ((r : Route) → x ≡ Some r → number r.prefix ≡ p) → Own f → Own (updated i p x f)
unfolding Own
own_updated i p x f here own j q r = cond_both (eqb j i && eqb q p) x (f j q) (λ y. y ≡ Some r → number r.prefix ≡ q) (λ t e. here r e ∙ sym (eqb-true q p (and_parts (eqb j i) (eqb q p) t).1)) (λ t e. own j q r e)

own_cleared : (i : ℕ) (f : Received) → Own f → Own (cleared i f)
unfolding Own
own_cleared i f own j q r = cond_both (eqb j i) None (f j q) (λ y. y ≡ Some r → number r.prefix ≡ q) (λ t e. absurd (some_none r e)) (λ t e. own j q r e)

own_says : (z : Size) (i p : ℕ) (x : Option Route) (s : Now) → ((r : Route) → x ≡ Some r → number r.prefix ≡ p) → Own s.received → Own (says z i p x s).received
own_says z i p x s here own =
    let kept : Now = record { rules = s.rules; up = s.up; received = updated i p x s.received } in
    let room : Bool = leb (stored z.peers z.prefixes (updated i p x s.received)) z.capacity in
    cond_both (ltb i z.peers && (ltb p z.prefixes && s.up i)) (cond room kept (down i s)) s (λ t. Own t.received)
    (λ h. cond_both room kept (down i s) (λ t. Own t.received) (λ k. own_updated i p x s.received here own) (λ k. own_cleared i s.received own))
    (λ h. own)

own_down : (is : List ℕ) (s : Now) → Own s.received → Own (all_down is s).received
unfolding all_down
own_down [] s own = own
own_down (i ∷ is) s own = own_cleared i (all_down is s).received (own_down is s own)

own_step : (z : Size) (e : Event) (s : Now) → Own s.received → Own (step z e s).received
own_step z (Announces i r) s own = own_says z i (number r.prefix) (Some r) s (λ q e. let same : r ≡ q = cc in ap (λ (x : Route). number x.prefix) (sym same)) own
own_step z (Withdraws i p) s own = own_says z i p None s (λ q e. absurd (some_none q e)) own
own_step z (Establishes i) s own = own_cleared i s.received own
own_step z (GoDown is) s own = own_down is s own
own_step z (PutInForce imports exports) s own = own

own_after : (z : Size) (rules : Rules) (es : List Event) → Own (after z rules es).received
unfolding after Own
own_after z rules [] i p r e = absurd (some_none r e)
own_after z rules (e ∷ es) i p r h = own_step z e (after z rules es) (own_after z rules es) i p r h

-- import, selection and export keep the prefix
not_ring : (own : ℕ) (x : Option Route) (r : Route) → unless_ring own x ≡ Some r → x ≡ Some r
not_ring own None r e = e
not_ring own (Some a) r e = cond_both (is_in own a.path) None (Some a) (λ y. y ≡ Some r → Some a ≡ Some r) (λ t f. absurd (some_none r f)) (λ t f. f) e

imported_prefix : (rules : Rules) (i : ℕ) (x : Option Route) (p : ℕ) (r : Route) → Of p x → imported rules i x ≡ Some r → number r.prefix ≡ p
unfolding Of
imported_prefix rules i None p r h e = absurd (some_none r e)
imported_prefix rules i (Some a) p r h e = ap number (policy_laws.same_prefix (rules.imports i) (with_local_pref 100 a) r (not_ring rules.own _ r e)) ∙ h a refl

selected_prefix : (rules : Rules) (received : Received) (p n : ℕ) (c : Candidate) → Own received → selected rules received p n ≡ Some c → number c.route.prefix ≡ p
unfolding Own Of
selected_prefix rules received p n c own e =
    let best = selection_laws.is_best rules received p n c e in
    imported_prefix rules c.peer (received c.peer p) p c.route (own c.peer p) best.is_imported

not_preferred : (x : Option Route) (y : Route) → unpreferred x ≡ Some y → (w : Route) × ((x ≡ Some w) × (y ≡ with_local_pref 0 w))
not_preferred None y e = absurd (some_none y e)
not_preferred (Some w) y e = (w, (refl, cc))

exported_prefix : (policy : Policy) (j : ℕ) (best : Option Candidate) (p : ℕ) (y : Route) → ((c : Candidate) → best ≡ Some c → number c.route.prefix ≡ p) → exported_to policy j best ≡ Some y → number y.prefix ≡ p
exported_prefix policy j None p y h e = absurd (some_none y e)
exported_prefix policy j (Some c) p y h f = cond_both (eqb c.peer j) None (unpreferred (evaluate policy c.route)) (λ x. x ≡ Some y → number y.prefix ≡ p) (λ t e. absurd (some_none y e)) (λ t e.
    let made = not_preferred (evaluate policy c.route) y e in
    ap (λ (x : Route). number x.prefix) made.1.1 ∙ ap number (policy_laws.same_prefix policy c.route made.0 made.1.0) ∙ h c refl) f

candidate_none : (c : Candidate) → None ≡ Some c → ⊥
candidate_none c e = let never : ◌≡◌ {A = ℕ} 0 1 = cc in omega arith

offered_prefix : (own : ℕ) (best : Option Candidate) (p : ℕ) (c : Candidate) → ((b : Candidate) → best ≡ Some b → number b.route.prefix ≡ p) → offered own best ≡ Some c → number c.route.prefix ≡ p
offered_prefix own None p c h e = absurd (candidate_none c e)
offered_prefix own (Some b) p c h f = cond_both (leb (length (own ∷ b.route.path)) 32) (Some (record { peer = b.peer; route = with_med 0 (with_path (own ∷ b.route.path) b.route) })) None (λ x. x ≡ Some c → number c.route.prefix ≡ p) (λ t e.
    let same : record { peer = b.peer; route = with_med 0 (with_path (own ∷ b.route.path) b.route) } ≡ c = cc in
    ap (λ (x : Candidate). number x.route.prefix) (sym same) ∙ h b refl) (λ t e. absurd (candidate_none c e)) f

intended_prefix : (rules : Rules) (n : ℕ) (received : Received) (j p : ℕ) (y : Route) → Own received → intended rules n received j p ≡ Some y → number y.prefix ≡ p
intended_prefix rules n received j p y own = exported_prefix (rules.exports j) j (offered rules.own (selected rules received p n)) p y (λ c. offered_prefix rules.own (selected rules received p n) p c (λ b. selected_prefix rules received p n b own))

-- rows of updates
placed_append : (us vs : List Update) → AllPlaced us → AllPlaced vs → AllPlaced (us ++ vs)
unfolding AllPlaced
placed_append [] vs a e = e
placed_append (u ∷ us) vs a e = (a.0, placed_append us vs a.1 e)

placed_tell : (j p : ℕ) (old new : Option Route) → Placed (record { peer = j; prefix = p; route = new }) → AllPlaced (tell_if j p old new)
unfolding AllPlaced
placed_tell j p old new h = cond_both (same_option new old) [] (record { peer = j; prefix = p; route = new } ∷ []) AllPlaced (λ t. tt) (λ t. (h, tt))

placed_row : (j : ℕ) (old new : ℕ → Option Route) (m : ℕ) → ((p : ℕ) → Placed (record { peer = j; prefix = p; route = new p })) → AllPlaced (row j old new m)
unfolding AllPlaced row
placed_row j old new zero h = tt
placed_row j old new (suc m) h = placed_append (row j old new m) (tell_if j m (old m) (new m)) (placed_row j old new m h) (placed_tell j m (old m) (new m) (h m))

placed_updates : (m : ℕ) (up : ℕ → Bool) (old new : Held) (n : ℕ) → ((j p : ℕ) → Placed (record { peer = j; prefix = p; route = new j p })) → AllPlaced (updates m up old new n)
unfolding AllPlaced updates
placed_updates m up old new zero h = tt
placed_updates m up old new (suc n) h = placed_append (updates m up old new n) (cond (up n) (row n (old n) (new n) m) []) (placed_updates m up old new n h) (cond_both (up n) (row n (old n) (new n) m) [] AllPlaced (λ t. placed_row n (old n) (new n) m (h n)) (λ t. tt))

placed_intended : (z : Size) (rules : Rules) (es : List Event) (j p : ℕ) → Placed (record { peer = j; prefix = p; route = intended_in z (after z rules es) j p })
placed_intended z rules es j p =
    let s = after z rules es in
    record {
      own_prefix = λ r e. intended_prefix s.rules z.peers s.received j p r (own_after z rules es) e;
      unpreferred = λ r e. selection_laws.not_preferred s.rules z.peers s.received j p r e;
    }

one_event : (z : Size) (rules : Rules) (e : Event) (es : List Event) → AllPlaced (sent z rules e es)
one_event z rules e es = placed_updates z.prefixes _ _ _ z.peers (placed_intended z rules (e ∷ es))

all_events : (z : Size) (rules : Rules) (row es : List Event) → AllPlaced (sent_all z rules row es)
unfolding AllPlaced sent_all
all_events z rules [] es = tt
all_events z rules (e ∷ row) es = placed_append (sent z rules e es) (sent_all z rules row (e ∷ es)) (one_event z rules e es) (all_events z rules row (e ∷ es))

pub placed : PlacedLaws
placed = record { one_event = one_event; all_events = all_events }
