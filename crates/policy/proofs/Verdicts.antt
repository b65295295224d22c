-- What is true of every policy. Assumes nothing.
use Rattle.std.proofs.Common.{◌≡◌, ℕ, zero, suc, ◌<◌, ◌≤◌, Bool, true, false, cond, ◌&&◌, leb, List, [], ◌∷◌, ◌++◌, length, get_or, Some, None, refl, ap, ◌∙◌, subst, arith}
use Rattle.std.proofs.lemmas.Bool.{leb-true, eq-eqb, or_left, or_right}
use Rattle.prefix.specs.Prefix.{Prefix}
use Rattle.route.proofs.Members.{laws as rows}
use Rattle.route.specs.Numbers.{insert, without, rising, prepended}
use Rattle.route.specs.Route.{Route, Formed, with_path, with_communities}
use Rattle.policy.specs.Laws.{PolicyLaws, Lengthened, prepended_by, prepends}
use Rattle.policy.specs.Policy.{Condition, holds, Action, Accept, Reject, SetLocalPref, SetMed, AddCommunity, RemoveCommunity, Prepend, act, Clause, clause_step, Policy, Verdict, Accepted, Rejected, Step, Decided, GoesOn, and_then, through, at_end, verdict, accepted, evaluate}

regroup : (x : Step) (f g h : Route → Step) → ((r : Route) → h r ≡ and_then (f r) g) → and_then x h ≡ and_then (and_then x f) g
regroup (Decided v) f g h e = refl
regroup (GoesOn r) f g h e = e r

in_a_row : (p q : Policy) (r : Route) → through (p ++ q) r ≡ and_then (through p r) (λ s. through q s)
unfolding through
in_a_row [] q r = refl
in_a_row (c ∷ p) q r = regroup (clause_step c r) (λ s. through p s) (λ s. through q s) (λ s. through (p ++ q) s) (λ s. in_a_row p q s)

decided_stays : (p q : Policy) (r : Route) (v : Verdict) → through p r ≡ Decided v → verdict (p ++ q) r ≡ v
decided_stays p q r v e = ap at_end (in_a_row p q r ∙ ap (λ x. and_then x (λ s. through q s)) e)

goes_on : (p q : Policy) (r s : Route) → through p r ≡ GoesOn s → through (p ++ q) r ≡ through q s
goes_on p q r s e = in_a_row p q r ∙ ap (λ x. and_then x (λ t. through q t)) e

decides : (c : Clause) (q : Policy) (s : Route) (v : Verdict) → clause_step c s ≡ Decided v → through (c ∷ q) s ≡ Decided v
unfolding through
decides c q s v e = ap (λ x. and_then x (λ t. through q t)) e

first_decides : (p q : Policy) (c : Clause) (r s : Route) (v : Verdict) → through p r ≡ GoesOn s → clause_step c s ≡ Decided v → verdict (p ++ (c ∷ q)) r ≡ v
first_decides p q c r s v e d = ap at_end (goes_on p (c ∷ q) r s e ∙ decides c q s v d)

passed_over : (c : Clause) (p : Policy) (r : Route) → holds c.condition r ≡ false → evaluate (c ∷ p) r ≡ evaluate p r
unfolding through
passed_over c p r e = ap (λ b. accepted (at_end (and_then (cond b (act c.action r) (GoesOn r)) (λ q. through p q)))) e

no_clauses : (r : Route) → evaluate [] r ≡ None
unfolding through
no_clauses r = refl

both : (a e : Condition) (r : Route) → holds (a ++ e) r ≡ (holds a r && holds e r)
both [] e r = refl
both (p ∷ a) e r = let more = both a e r in grind arith

-- what holds of the route, whatever comes of it
abbrev Of : (Route → Type 0) → Step → Type 0
Of P (Decided (Accepted r)) = P r
Of P (Decided (Rejected r)) = P r
Of P (GoesOn r) = P r

of_cond : (P : Route → Type 0) (b : Bool) (x y : Step) → (b ≡ true → Of P x) → Of P y → Of P (cond b x y)
of_cond P true x y h k = h refl
of_cond P false x y h k = k

of_then : (P : Route → Type 0) (x : Step) (next : Route → Step) → Of P x → ((r : Route) → P r → Of P (next r)) → Of P (and_then x next)
of_then P (Decided v) next h k = h
of_then P (GoesOn r) next h k = k r h

-- what each action keeps, all clauses keep
module _ (P : Route → Type 0) (keeps : (a : Action) (r : Route) → P r → Of P (act a r)) where
  of_through : (p : Policy) (r : Route) → P r → Of P (through p r)
  unfolding through
  of_through [] r h = h
  of_through (c ∷ p) r h = of_then P (clause_step c r) (λ q. through p q) (of_cond P (holds c.condition r) (act c.action r) (GoesOn r) (λ _. keeps c.action r h) h) (of_through p)

of_accepted : (P : Route → Type 0) (x : Step) (s : Route) → Of P x → accepted (at_end x) ≡ Some s → P s
of_accepted P (Decided (Accepted r)) s h e = let same : r ≡ s = cc in subst P same h
of_accepted P (Decided (Rejected r)) s h e = let z : ◌≡◌ {A = ℕ} 0 1 = cc in absurd (omega arith)
of_accepted P (GoesOn r) s h e = let z : ◌≡◌ {A = ℕ} 0 1 = cc in absurd (omega arith)

record OfPrefix (p : Prefix) (r : Route) : Type 0 where
  same : r.prefix ≡ p

prefix_kept : (p : Prefix) (a : Action) (r : Route) → OfPrefix p r → Of (OfPrefix p) (act a r)
prefix_kept p Accept r e = e
prefix_kept p Reject r e = e
prefix_kept p (SetLocalPref n) r e = record { same = e.same }
prefix_kept p (SetMed n) r e = record { same = e.same }
prefix_kept p (AddCommunity c) r e =
    of_cond (OfPrefix p) (leb (length (insert c r.communities)) 8) (GoesOn (with_communities (insert c r.communities) r)) (Decided (Rejected r)) (λ _. record { same = e.same }) e
prefix_kept p (RemoveCommunity c) r e = record { same = e.same }
prefix_kept p (Prepend asn times) r e =
    of_cond (OfPrefix p) (leb (length (prepended asn times r.path)) 32) (GoesOn (with_path (prepended asn times r.path) r)) (Decided (Rejected r)) (λ _. record { same = e.same }) e

with_communities_lem : (cs : List ℕ) (r : Route) → Formed r → length cs ≤ 8 → rising cs ≡ true → Formed (with_communities cs r)
with_communities_lem cs r f few up = record { prefix_is_one = f.prefix_is_one; path_is_some = f.path_is_some; path_is_short = f.path_is_short; communities_are_few = few; communities_rise = up }

with_path_lem : (path : List ℕ) (r : Route) → Formed r → 0 < length path → length path ≤ 32 → Formed (with_path path r)
with_path_lem path r f some short = record { prefix_is_one = f.prefix_is_one; path_is_some = some; path_is_short = short; communities_are_few = f.communities_are_few; communities_rise = f.communities_rise }

formed_kept : (a : Action) (r : Route) → Formed r → Of Formed (act a r)
formed_kept Accept r f = f
formed_kept Reject r f = f
formed_kept (SetLocalPref n) r f = record { prefix_is_one = f.prefix_is_one; path_is_some = f.path_is_some; path_is_short = f.path_is_short; communities_are_few = f.communities_are_few; communities_rise = f.communities_rise }
formed_kept (SetMed n) r f = record { prefix_is_one = f.prefix_is_one; path_is_some = f.path_is_some; path_is_short = f.path_is_short; communities_are_few = f.communities_are_few; communities_rise = f.communities_rise }
formed_kept (AddCommunity c) r f =
    of_cond Formed _ _ _ (λ fits. with_communities_lem (insert c r.communities) r f (leb-true _ 8 fits) (rows.added_in_order c r.communities f.communities_rise)) f
formed_kept (RemoveCommunity c) r f =
    with_communities_lem (without c r.communities) r f (omega (arith, rows.removed_fewer c r.communities, f.communities_are_few)) (rows.removed_in_order c r.communities f.communities_rise)
formed_kept (Prepend asn times) r f =
    of_cond Formed _ _ _ (λ fits. with_path_lem (prepended asn times r.path) r f (omega (arith, rows.prepends asn times r.path, f.path_is_some)) (leb-true _ 32 fits)) f

-- only what the whole policy q prepends comes in front
module _ (q : Policy) (base : List ℕ) where
  record Fronted (r : Route) : Type 0 where
    is : Lengthened q base r.path

  more_front : (asn k : ℕ) (path : List ℕ) → prepends asn q ≡ true → Lengthened q base path → Lengthened q base (prepended asn k path)
  unfolding prepended
  more_front asn zero path h l = l
  more_front asn (suc k) path h l =
      let rest = more_front asn k path h l in
      record {
        front = asn ∷ rest.front;
        whole = ap (λ t. asn ∷ t) rest.whole;
        prepended = λ i. elim i as (λ i. i < suc (length rest.front) → prepends (get_or (asn ∷ rest.front) i 0) q ≡ true) [ zero ↦ λ _. h | suc i ↦ λ b. rest.prepended i (omega arith) ];
      }

  fronted_action : (a : Action) (r : Route) → ((n : ℕ) → prepended_by n a ≡ true → prepends n q ≡ true) → Fronted r → Of Fronted (act a r)
  fronted_action Accept r sub f = f
  fronted_action Reject r sub f = f
  fronted_action (SetLocalPref n) r sub f = record { is = f.is }
  fronted_action (SetMed n) r sub f = record { is = f.is }
  fronted_action (AddCommunity c) r sub f =
      of_cond Fronted (leb (length (insert c r.communities)) 8) (GoesOn (with_communities (insert c r.communities) r)) (Decided (Rejected r)) (λ _. record { is = f.is }) f
  fronted_action (RemoveCommunity c) r sub f = record { is = f.is }
  fronted_action (Prepend asn times) r sub f =
      of_cond Fronted (leb (length (prepended asn times r.path)) 32) (GoesOn (with_path (prepended asn times r.path) r)) (Decided (Rejected r))
      (λ _. record { is = more_front asn times r.path (sub asn (eq-eqb asn asn refl)) f.is }) f

  fronted : (p : Policy) (r : Route) → ((n : ℕ) → prepends n p ≡ true → prepends n q ≡ true) → Fronted r → Of Fronted (through p r)
  unfolding through prepends
  fronted [] r sub f = f
  fronted (c ∷ p) r sub f =
      of_then Fronted (clause_step c r) (λ s. through p s)
      (of_cond Fronted (holds c.condition r) (act c.action r) (GoesOn r) (λ _. fronted_action c.action r (λ n h. sub n (or_left (prepended_by n c.action) (prepends n p) h)) f) f)
      (λ s g. fronted p s (λ n h. sub n (or_right (prepended_by n c.action) (prepends n p) h)) g)

only_lengthened : (p : Policy) (r s : Route) → evaluate p r ≡ Some s → Lengthened p r.path s.path
only_lengthened p r s e =
    (of_accepted (Fronted p r.path) (through p r) s (fronted p r.path p r (λ n h. h) (record { is = record { front = []; whole = refl; prepended = λ k h. absurd (omega arith) } })) e).is

pub laws : PolicyLaws
laws = record {
  no_clauses = no_clauses;
  first_decides = first_decides;
  decided_stays = decided_stays;
  in_a_row = in_a_row;
  undecided = λ p q r s e. ap (λ x. accepted (at_end x)) (goes_on p q r s e);
  passed_over = passed_over;
  both = both;
  same_prefix = λ p r s e. (of_accepted (OfPrefix r.prefix) (through p r) s (of_through (OfPrefix r.prefix) (prefix_kept r.prefix) p r (record { same = refl })) e).same;
  only_lengthened = only_lengthened;
  formed = λ p r s f e. of_accepted Formed (through p r) s (of_through Formed formed_kept p r f) e;
}
