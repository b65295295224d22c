-- Routes that are the same are equal. Assumes nothing.
use Rattle.std.proofs.Common.{◌≡◌, ℕ, true, false, eqb, List, [], ◌∷◌, Some, None, Option, refl, ap}
use Rattle.route.specs.Same.{same_row, same_route, same_option}
use Rattle.prefix.specs.Prefix.{Prefix, same}
use Rattle.route.specs.Route.{Route}
use Rattle.std.proofs.lemmas.Bool.{eqb-true, eq-eqb, and_parts, and_from, both_ways}

row_equal : (xs ys : List ℕ) → same_row xs ys ≡ true → xs ≡ ys
row_equal [] [] h = refl
row_equal [] (y ∷ ys) h = absurd (both_ways false refl h)
row_equal (x ∷ xs) [] h = absurd (both_ways false refl h)
row_equal (x ∷ xs) (y ∷ ys) h = let parts = and_parts (eqb x y) (same_row xs ys) h in λ i. eqb-true x y parts.0 i ∷ row_equal xs ys parts.1 i

row_same : (xs : List ℕ) → same_row xs xs ≡ true
row_same [] = refl
row_same (x ∷ xs) = and_from (eqb x x) (same_row xs xs) (eq-eqb x x refl) (row_same xs)

prefix_equal : (p q : Prefix) → same p q ≡ true → p ≡ q
prefix_equal p q h = let parts = and_parts (eqb p.address q.address) (eqb p.length q.length) h in λ i. record { address = eqb-true p.address q.address parts.0 i; length = eqb-true p.length q.length parts.1 i }

prefix_same : (p : Prefix) → same p p ≡ true
prefix_same p = and_from (eqb p.address p.address) (eqb p.length p.length) (eq-eqb p.address p.address refl) (eq-eqb p.length p.length refl)

route_equal : (a e : Route) → same_route a e ≡ true → a ≡ e
route_equal a e h =
    let one = and_parts (same a.prefix e.prefix) _ h in
    let two = and_parts (same_row a.path e.path) _ one.1 in
    let three = and_parts (eqb a.local_pref e.local_pref) _ two.1 in
    let four = and_parts (eqb a.med e.med) (same_row a.communities e.communities) three.1 in
    λ i. record {
      prefix = prefix_equal a.prefix e.prefix one.0 i;
      path = row_equal a.path e.path two.0 i;
      local_pref = eqb-true a.local_pref e.local_pref three.0 i;
      med = eqb-true a.med e.med four.0 i;
      communities = row_equal a.communities e.communities four.1 i;
    }

route_same : (a : Route) → same_route a a ≡ true
route_same a =
    and_from (same a.prefix a.prefix) _ (prefix_same a.prefix)
    (and_from (same_row a.path a.path) _ (row_same a.path)
    (and_from (eqb a.local_pref a.local_pref) _ (eq-eqb a.local_pref a.local_pref refl)
    (and_from (eqb a.med a.med) (same_row a.communities a.communities) (eq-eqb a.med a.med refl) (row_same a.communities))))

pub option_equal : (x y : Option Route) → same_option x y ≡ true → x ≡ y
option_equal None None h = refl
option_equal None (Some e) h = absurd (both_ways false refl h)
option_equal (Some a) None h = absurd (both_ways false refl h)
option_equal (Some a) (Some e) h = ap Some (route_equal a e h)

pub option_same : (x : Option Route) → same_option x x ≡ true
option_same None = refl
option_same (Some a) = route_same a
