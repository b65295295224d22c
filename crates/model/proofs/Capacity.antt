-- Never more is remembered than there is room for. Assumes nothing.
use Rattle.std.proofs.Common.{◌≡◌, ℕ, zero, suc, ◌+◌, ◌≤◌, Bool, true, false, ◌&&◌, ltb, leb, List, [], ◌∷◌, Some, None, Option, refl, arith}
use Rattle.model.specs.Model.{Size, Event, Announces, Withdraws, Establishes, GoDown, PutInForce, Now, down, all_down, says, step, after}
use Rattle.rib.specs.Received.{Received, updated, cleared, is_route, count_of, stored}
use Rattle.route.specs.Route.{Route}
use Rattle.selection.specs.Intended.{Rules}
use Rattle.std.proofs.lemmas.Bool.{cond_both, leb-true}
use Rattle.std.proofs.lemmas.Bool.Decides.{nat_tests as tests}

pub count_more : (m : ℕ) (f g : ℕ → Bool) → ((p : ℕ) → f p ≡ true → g p ≡ true) → count_of m f ≤ count_of m g
unfolding count_of
count_more zero f g h = omega arith
count_more (suc m) f g h = let more = count_more m f g h in let here = h m in grind (arith, tests)

pub stored_more : (n m : ℕ) (f g : Received) → ((i p : ℕ) → is_route (f i p) ≡ true → is_route (g i p) ≡ true) → stored n m f ≤ stored n m g
unfolding stored
stored_more zero m f g h = omega arith
stored_more (suc n) m f g h = omega (arith, count_more m (λ p. is_route (f n p)) (λ p. is_route (g n p)) (h n), stored_more n m f g h)

cleared_less : (i : ℕ) (f : Received) (j p : ℕ) → is_route (cleared i f j p) ≡ true → is_route (f j p) ≡ true
cleared_less i f j p h = grind (arith, tests)

pub cleared_stored : (n m i : ℕ) (f : Received) → stored n m (cleared i f) ≤ stored n m f
cleared_stored n m i f = stored_more n m (cleared i f) f (cleared_less i f)

down_stored : (n m : ℕ) (is : List ℕ) (s : Now) → stored n m (all_down is s).received ≤ stored n m s.received
unfolding all_down
down_stored n m [] s = omega arith
down_stored n m (i ∷ is) s = omega (arith, cleared_stored n m i (all_down is s).received, down_stored n m is s)

abbrev kept : Size → Now → ℕ
kept z s = stored z.peers z.prefixes s.received

says_stored : (z : Size) (i p : ℕ) (x : Option Route) (s : Now) → kept z s ≤ z.capacity → kept z (says z i p x s) ≤ z.capacity
says_stored z i p x s h =
    cond_both (ltb i z.peers && (ltb p z.prefixes && s.up i)) _ s (λ t. kept z t ≤ z.capacity)
    (λ _. cond_both (leb (stored z.peers z.prefixes (updated i p x s.received)) z.capacity) _ (down i s) (λ t. kept z t ≤ z.capacity) (λ e. leb-true _ _ e) (λ _. omega (arith, cleared_stored z.peers z.prefixes i s.received)))
    (λ _. h)

step_stored : (z : Size) (e : Event) (s : Now) → kept z s ≤ z.capacity → kept z (step z e s) ≤ z.capacity
step_stored z (Announces i r) s h = says_stored z i _ (Some r) s h
step_stored z (Withdraws i p) s h = says_stored z i p None s h
step_stored z (Establishes i) s h = omega (arith, cleared_stored z.peers z.prefixes i s.received)
step_stored z (GoDown is) s h = omega (arith, down_stored z.peers z.prefixes is s)
step_stored z (PutInForce imports exports) s h = h

count_none : (m : ℕ) → count_of m (λ p. false) ≡ 0
unfolding count_of
count_none zero = refl
count_none (suc m) = count_none_step (count_of m (λ p. false)) (count_none m)
  where
    count_none_step : (k : ℕ) → k ≡ 0 → 0 + k ≡ 0
    count_none_step k e = omega arith

stored_none : (n m : ℕ) → stored n m (λ i p. None) ≡ 0
unfolding stored
stored_none zero m = refl
stored_none (suc n) m = omega (arith, count_none m, stored_none n m)

pub in_capacity : (z : Size) (rules : Rules) (es : List Event) → kept z (after z rules es) ≤ z.capacity
unfolding after
in_capacity z rules [] = omega (arith, stored_none z.peers z.prefixes)
in_capacity z rules (e ∷ es) = step_stored z e (after z rules es) (in_capacity z rules es)
