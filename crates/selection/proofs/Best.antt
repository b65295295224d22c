-- The best route, and what is exported of it. Assumes nothing.
use Rattle.std.proofs.Common.{◌≡◌, ℕ, zero, suc, ◌<◌, ◌≤◌, Bool, true, false, cond, not, ◌&&◌, ◌||◌, eqb, ltb, leb, ◌∷◌, length, Some, None, Option, sym, refl, ap, ◌∙◌, subst, ⊎_elim, arith}
use Rattle.policy.proofs.Verdicts.{laws as policies}
use Rattle.policy.specs.Laws.{Lengthened}
use Rattle.policy.specs.Policy.{evaluate}
use Rattle.rib.specs.Received.{Received}
use Rattle.route.specs.Numbers.{is_in}
use Rattle.route.specs.Route.{Route, Formed, with_path, with_local_pref, with_med}
use Rattle.selection.specs.Intended.{Rules, unless_ring, imported, Candidate, outranks, better, or_better, selected, offered, unpreferred, exported_to, exported, intended}
use Rattle.selection.specs.Laws.{IsBest, SameButImport, SelectionLaws}
use Rattle.std.proofs.lemmas.Bool.{leb-true, eqb-false, both_ways, cases_Bool, cases_eq, cond-true, cond-false}
use Rattle.std.proofs.lemmas.Bool.Decides.{nat_tests}

-- by the four numbers
outranks_one : (a b c d e f g h : ℕ) → (d ≡ h → ⊥) → outranks (record { local_pref = a; path_length = b; med = c; peer = d }) (record { local_pref = e; path_length = f; med = g; peer = h }) ≡ not (outranks (record { local_pref = e; path_length = f; med = g; peer = h }) (record { local_pref = a; path_length = b; med = c; peer = d }))
outranks_one a b c d e f g h ne = grind (arith, nat_tests)

one_is_better : (a e : Candidate) → (a.peer ≡ e.peer → ⊥) → better a e ≡ not (better e a)
one_is_better a e ne = outranks_one a.route.local_pref (length a.route.path) a.route.med a.peer e.route.local_pref (length e.route.path) e.route.med e.peer ne

-- an order by one number, and where that is equal by the rest
first_then : (x y z : ℕ) (p q r : Bool) → (p ≡ true → q ≡ true → r ≡ true) → (ltb x y || (eqb x y && p)) ≡ true → (ltb y z || (eqb y z && q)) ≡ true → (ltb x z || (eqb x z && r)) ≡ true
first_then x y z p q r h a e = grind (arith, nat_tests)

first_then_back : (x y z : ℕ) (p q r : Bool) → (p ≡ true → q ≡ true → r ≡ true) → (ltb y x || (eqb y x && p)) ≡ true → (ltb z y || (eqb z y && q)) ≡ true → (ltb z x || (eqb z x && r)) ≡ true
first_then_back x y z p q r h a e = grind (arith, nat_tests)

last : (x y z : ℕ) → ltb x y ≡ true → ltb y z ≡ true → ltb x z ≡ true
last x y z a e = grind (arith, nat_tests)

transitive : (a e d : Candidate) → better a e ≡ true → better e d ≡ true → better a d ≡ true
transitive a e d =
    first_then_back a.route.local_pref e.route.local_pref d.route.local_pref _ _ _
    (first_then (length a.route.path) (length e.route.path) (length d.route.path) _ _ _
    (first_then a.route.med e.route.med d.route.med _ _ _
    (last a.peer e.peer d.peer)))

not_better_than_itself : (c : Candidate) → better c c ≡ false
not_better_than_itself c =
    itself c.route.local_pref (length c.route.path) c.route.med c.peer
  where
    itself : (a b m d : ℕ) → outranks (record { local_pref = a; path_length = b; med = m; peer = d }) (record { local_pref = a; path_length = b; med = m; peer = d }) ≡ false
    itself a b m d = grind (arith, nat_tests)

-- what is not better than one is not better than a better one
beaten : (a e d : Candidate) → better a d ≡ false → better e d ≡ true → better a e ≡ false
beaten a e d f t = ⊎_elim (λ h. absurd (both_ways (better a d) f (transitive a e d h t))) (λ h. h) (cases_Bool (better a e))

-- two different variants are never equal
some_none : {A : Type 0} {B : Type 0} (x : Option A) (a : A) → x ≡ Some a → x ≡ None → B
some_none x a e n = let z : ◌≡◌ {A = ℕ} 0 1 = cc in absurd (omega arith)

same_some : {A : Type 0} (x : Option A) (a e : A) → x ≡ Some a → x ≡ Some e → a ≡ e
same_some x a e p q = cc

module _ (rules : Rules) (received : Received) (p : ℕ) where
  -- what one peer more makes of the best
  more_none : (n : ℕ) (x : Option Route) (best : Option Candidate) → or_better n x best ≡ None → (x ≡ None) × (best ≡ None)
  more_none n None best e = (refl, e)
  more_none n (Some r) None e = some_none _ _ refl e
  more_none n (Some r) (Some f) e = some_none _ _ refl e

  nothing_imported : (n i : ℕ) → selected rules received p n ≡ None → i < n → imported rules i (received i p) ≡ None
  unfolding selected
  nothing_imported zero i e h = absurd (omega arith)
  nothing_imported (suc n) i e h =
      let parts = more_none n (imported rules n (received n p)) (selected rules received p n) e in
      ⊎_elim (λ q. ap (λ k. imported rules k (received k p)) q ∙ parts.0) (λ q. nothing_imported n i parts.1 (omega arith)) (cases_eq i n)

  -- what is known of the peers below n, and of peer n
  all_below : (n : ℕ) (c : Candidate) → ((i : ℕ) (r : Route) → i < n → imported rules i (received i p) ≡ Some r → better (record { peer = i; route = r }) c ≡ false) → ((r : Route) → imported rules n (received n p) ≡ Some r → better (record { peer = n; route = r }) c ≡ false) → (i : ℕ) (r : Route) → i < suc n → imported rules i (received i p) ≡ Some r → better (record { peer = i; route = r }) c ≡ false
  all_below n c below here i r h e =
      ⊎_elim (λ q. subst (λ k. better (record { peer = k; route = r }) c ≡ false) (sym q) (here r (ap (λ k. imported rules k (received k p)) (sym q) ∙ e))) (λ q. below i r (omega arith) e) (cases_eq i n)

  new_best : (n : ℕ) (r : Route) → imported rules n (received n p) ≡ Some r → ((i : ℕ) (x : Route) → i < n → imported rules i (received i p) ≡ Some x → better (record { peer = i; route = x }) (record { peer = n; route = r }) ≡ false) → IsBest rules received p (suc n) (record { peer = n; route = r })
  new_best n r e below = record {
    peer_is_there = omega arith;
    is_imported = e;
    none_better = all_below n (record { peer = n; route = r }) below (λ x f. subst (λ y. better (record { peer = n; route = y }) (record { peer = n; route = r }) ≡ false) (same_some _ r x e f) (not_better_than_itself (record { peer = n; route = r })));
  }

  more_best : (n : ℕ) (x : Option Route) (best : Option Candidate) → imported rules n (received n p) ≡ x → ((i : ℕ) → best ≡ None → i < n → imported rules i (received i p) ≡ None) → ((c : Candidate) → best ≡ Some c → IsBest rules received p n c) → (c : Candidate) → or_better n x best ≡ Some c → IsBest rules received p (suc n) c
  more_best n None best e none was c q =
      let b = was c q in
      record {
        peer_is_there = omega (arith, b.peer_is_there);
        is_imported = b.is_imported;
        none_better = all_below n c b.none_better (λ r f. some_none _ r f e);
      }
  more_best n (Some r) None e none was c q =
      let new : record { peer = n; route = r } ≡ c = cc in
      subst (IsBest rules received p (suc n)) new (new_best n r e (λ i x h f. some_none _ x f (none i refl h)))
  more_best n (Some r) (Some f) e none was c q =
      let b = was f refl in
      let one : cond (better (record { peer = n; route = r }) f) (record { peer = n; route = r }) f ≡ c = cc in
      ⊎_elim
      (λ h. subst (IsBest rules received p (suc n)) (sym (cond-true _ _ _ h) ∙ one) (new_best n r e (λ i x l g. beaten (record { peer = i; route = x }) (record { peer = n; route = r }) f (b.none_better i x l g) h)))
      (λ h. subst (IsBest rules received p (suc n)) (sym (cond-false _ _ _ h) ∙ one) (record {
        peer_is_there = omega (arith, b.peer_is_there);
        is_imported = b.is_imported;
        none_better = all_below n f b.none_better (λ x g. subst (λ y. better (record { peer = n; route = y }) f ≡ false) (same_some _ r x e g) h);
      }))
      (cases_Bool (better (record { peer = n; route = r }) f))

  is_best : (n : ℕ) (c : Candidate) → selected rules received p n ≡ Some c → IsBest rules received p n c
  unfolding selected
  is_best zero c e = some_none _ c e refl
  is_best (suc n) c e =
      more_best n (imported rules n (received n p)) (selected rules received p n) refl (λ i none h. nothing_imported n i none h) (λ d q. is_best n d q) c e

  -- of two that are best neither is better than the other, so they are one
  one_best : (n : ℕ) (c d : Candidate) → IsBest rules received p n c → IsBest rules received p n d → c ≡ d
  one_best n c d a b =
      ⊎_elim
      (λ same. let route : c.route ≡ d.route = same_some _ _ _ a.is_imported (ap (λ k. imported rules k (received k p)) same ∙ b.is_imported) in λ i. record { peer = same i; route = route i })
      (λ other. absurd (both_ways (better c d) (b.none_better c.peer c.route a.peer_is_there a.is_imported) (one_is_better c d other ∙ ap not (a.none_better d.peer d.route b.peer_is_there b.is_imported))))
      (cases_eq c.peer d.peer)

  some_best : (n : ℕ) (c : Candidate) (x : Option Candidate) → selected rules received p n ≡ x → IsBest rules received p n c → x ≡ Some c
  some_best n c None e b = some_none _ _ b.is_imported (nothing_imported n c.peer e b.peer_is_there)
  some_best n c (Some d) e b = ap Some (one_best n d c (is_best n d e) b)

-- what is imported was announced, and runs in no ring
was_announced : (rules : Rules) (i : ℕ) (x : Option Route) (r : Route) → imported rules i x ≡ Some r → (a : Route) × (x ≡ Some a)
was_announced rules i None r e = some_none _ r e refl
was_announced rules i (Some a) r e = (a, refl)

unless_ring_lem : (own : ℕ) (x : Option Route) (r : Route) → unless_ring own x ≡ Some r → is_in own r.path ≡ false
unless_ring_lem own None r e = some_none _ r e refl
unless_ring_lem own (Some a) r e =
    ⊎_elim
    (λ h. some_none _ r e (cond-true _ _ _ h))
    (λ h. let same : a ≡ r = same_some _ a r (cond-false (is_in own a.path) None (Some a) h) e in subst (λ b. is_in own b.path ≡ false) same h)
    (cases_Bool (is_in own a.path))

no_ring : (rules : Rules) (i : ℕ) (x : Option Route) (r : Route) → imported rules i x ≡ Some r → is_in rules.own r.path ≡ false
no_ring rules i None r e = some_none _ r e refl
no_ring rules i (Some a) r e = unless_ring_lem rules.own (evaluate (rules.imports i) (with_local_pref 100 a)) r e

-- what was exported, and of what
abbrev given_to : Rules → Candidate → Route
given_to rules c = with_med 0 (with_path (rules.own ∷ c.route.path) c.route)

record Exported (rules : Rules) (j : ℕ) (c : Candidate) (y : Route) : Type 0 where
  other : c.peer ≡ j → ⊥
  short : length (rules.own ∷ c.route.path) ≤ 32
  accepted : Route
  made : evaluate (rules.exports j) (given_to rules c) ≡ Some accepted
  is : y ≡ with_local_pref 0 accepted

unprefer : (x : Option Route) (y : Route) → unpreferred x ≡ Some y → (z : Route) × (x ≡ Some z) × (y ≡ with_local_pref 0 z)
unprefer None y e = some_none _ y e refl
unprefer (Some z) y e = let same : with_local_pref 0 z ≡ y = cc in (z, refl, sym same)

exported_of : (rules : Rules) (j : ℕ) (c : Candidate) (y : Route) → exported rules j (Some c) ≡ Some y → Exported rules j c y
exported_of rules j c y e =
    ⊎_elim
    (λ fits. ⊎_elim
    (λ own. some_none _ y (at_fits fits e) (cond-true _ _ _ own))
    (λ other.
    let made = unprefer (evaluate (rules.exports j) (given_to rules c)) y (sym (cond-false (eqb c.peer j) None _ other) ∙ at_fits fits e) in
    record { other = eqb-false c.peer j other; short = leb-true _ 32 fits; accepted = made.0; made = made.1; is = made.2 })
    (cases_Bool (eqb c.peer j)))
    (λ long. some_none _ y e (ap (exported_to (rules.exports j) j) (cond-false (leb (length (rules.own ∷ c.route.path)) 32) _ None long)))
    (cases_Bool (leb (length (rules.own ∷ c.route.path)) 32))
  where
    at_fits : leb (length (rules.own ∷ c.route.path)) 32 ≡ true → exported rules j (Some c) ≡ Some y → exported_to (rules.exports j) j (Some (record { peer = c.peer; route = given_to rules c })) ≡ Some y
    at_fits fits q = sym (ap (exported_to (rules.exports j) j) (cond-true (leb (length (rules.own ∷ c.route.path)) 32) _ None fits)) ∙ q

from_selected : (rules : Rules) (j : ℕ) (x : Option Candidate) (y : Route) → exported rules j x ≡ Some y → (c : Candidate) × (x ≡ Some c) × Exported rules j c y
from_selected rules j None y e = some_none _ y e refl
from_selected rules j (Some c) y e = (c, refl, exported_of rules j c y e)

module _ (rules : Rules) (n : ℕ) (received : Received) (j p : ℕ) (y : Route) where
  not_back : intended rules n received j p ≡ Some y → (c : Candidate) × (selected rules received p n ≡ Some c) × (c.peer ≡ j → ⊥)
  not_back e = let was = from_selected rules j (selected rules received p n) y e in (was.0, was.1, was.2.other)

  own_in_front : (c : Candidate) → selected rules received p n ≡ Some c → intended rules n received j p ≡ Some y → Lengthened (rules.exports j) (rules.own ∷ c.route.path) y.path
  own_in_front c s e =
      let was = exported_of rules j c y (sym (ap (exported rules j) s) ∙ e) in
      subst (λ t. Lengthened (rules.exports j) (rules.own ∷ c.route.path) t.path) (sym was.is) (policies.only_lengthened (rules.exports j) (given_to rules c) was.accepted was.made)

  not_preferred : intended rules n received j p ≡ Some y → y.local_pref ≡ 0
  not_preferred e = let was = from_selected rules j (selected rules received p n) y e in ap (λ t. t.local_pref) was.2.is

-- what is imported is what the policy made of what was announced
evaluated : (own : ℕ) (x : Option Route) (r : Route) → unless_ring own x ≡ Some r → x ≡ Some r
evaluated own None r e = some_none _ r e refl
evaluated own (Some a) r e =
    ⊎_elim (λ h. some_none _ r e (cond-true _ _ _ h)) (λ h. sym (cond-false (is_in own a.path) None (Some a) h) ∙ e) (cases_Bool (is_in own a.path))

preferred : (k : ℕ) (r : Route) → Formed r → Formed (with_local_pref k r)
preferred k r f = record { prefix_is_one = f.prefix_is_one; path_is_some = f.path_is_some; path_is_short = f.path_is_short; communities_are_few = f.communities_are_few; communities_rise = f.communities_rise }

formed_import : (rules : Rules) (i : ℕ) (x : Option Route) (r : Route) → ((a : Route) → x ≡ Some a → Formed a) → imported rules i x ≡ Some r → Formed r
formed_import rules i None r f e = some_none _ r e refl
formed_import rules i (Some a) r f e =
    policies.formed (rules.imports i) (with_local_pref 100 a) r (preferred 100 a (f a refl)) (evaluated rules.own (evaluate (rules.imports i) (with_local_pref 100 a)) r e)

formed : (rules : Rules) (n : ℕ) (received : Received) (j p : ℕ) (y : Route) → ((i : ℕ) (a : Route) → received i p ≡ Some a → Formed a) → intended rules n received j p ≡ Some y → Formed y
formed rules n received j p y f e =
    let was = from_selected rules j (selected rules received p n) y e in
    let c = was.0 in
    let best = is_best rules received p n c was.1 in
    let route = formed_import rules c.peer (received c.peer p) c.route (f c.peer) best.is_imported in
    let offer : Formed (given_to rules c) = record { prefix_is_one = route.prefix_is_one; path_is_some = omega arith; path_is_short = was.2.short; communities_are_few = route.communities_are_few; communities_rise = route.communities_rise } in
    subst Formed (sym was.2.is) (preferred 0 was.2.accepted (policies.formed (rules.exports j) (given_to rules c) was.2.accepted offer was.2.made))

pub same_selected : (rules : Rules) (f g : Received) (p n : ℕ) → ((i : ℕ) → f i p ≡ g i p) → selected rules f p n ≡ selected rules g p n
unfolding selected
same_selected rules f g p zero e = refl
same_selected rules f g p (suc n) e = λ i. or_better n (imported rules n (e n i)) (same_selected rules f g p n e i)

module _ (i : ℕ) (a e : Rules) (same : SameButImport i a e) where
  same_import : (k : ℕ) (x : Option Route) → (k ≡ i → x ≡ None) → imported a k x ≡ imported e k x
  same_import k None h = refl
  same_import k (Some r) h = λ t. unless_ring (same.same_own t) (evaluate (same.same_imports k (λ q. some_none _ r refl (h q)) t) (with_local_pref 100 r))

  same_rules_selected : (received : Received) (p n : ℕ) → received i p ≡ None → selected a received p n ≡ selected e received p n
  unfolding selected
  same_rules_selected received p zero h = refl
  same_rules_selected received p (suc n) h =
      let here = same_import n (received n p) (λ q. ap (λ k. received k p) q ∙ h) in
      λ t. or_better n (here t) (same_rules_selected received p n h t)

  other_imports : (n : ℕ) (received : Received) (j p : ℕ) → received i p ≡ None → intended a n received j p ≡ intended e n received j p
  other_imports n received j p h = λ t. exported_to (same.same_exports j t) j (offered (same.same_own t) (same_rules_selected received p n h t))

pub laws : SelectionLaws
laws = record {
  was_announced = was_announced;
  no_ring = no_ring;
  one_is_better = one_is_better;
  transitive = transitive;
  is_best = is_best;
  best_is_selected = λ rules received p n c b. some_best rules received p n c (selected rules received p n) refl b;
  nothing_imported = nothing_imported;
  not_back = not_back;
  own_in_front = own_in_front;
  not_preferred = not_preferred;
  formed = formed;
  other_prefixes = λ rules n f g j p e. ap (exported rules j) (same_selected rules f g p n e);
  other_imports = λ a e n received i j p same h. other_imports i a e same n received j p h;
}
