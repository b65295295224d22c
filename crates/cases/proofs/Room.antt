-- Where there is room for all announcements, nobody need ask whether there is. Assumes nothing.
use Rattle.std.proofs.Common.{◌≡◌, ℕ, zero, suc, ◌+◌, ◌-◌, ◌*◌, ◌/◌, ◌%◌, ◌^◌, ◌<◌, ◌≤◌, Bool, true, cond, ◌&&◌, eqb, ltb, leb, List, [], ◌∷◌, Some, None, Option, sym, refl, ap, ◌∙◌, subst, ⊎_elim, pow-suc, arith}
use lib.Count.{ones, ones_in, ones_step}
use Rattle.cases.specs.Few.{place, says_freely, freely, announcements}
use Rattle.model.proofs.Capacity.{count_more, stored_more, cleared_stored, in_capacity}
use Rattle.model.specs.Model.{Size, Event, Announces, Withdraws, Establishes, GoDown, PutInForce, Now, down, all_down, says, step, after}
use Rattle.prefix.specs.Prefix.{Prefix, number}
use Rattle.rib.specs.Received.{Received, updated, is_route, count_of, stored}
use Rattle.route.specs.Route.{Route}
use Rattle.selection.specs.Intended.{Rules}
use Rattle.std.proofs.lemmas.Bool.{cases_eq, cond-true, cond_both, le-leb, ltb-true}
use Rattle.std.proofs.lemmas.Bool.Decides.{nat_tests as tests}

-- both count the same bits
few_ones : (d n : ℕ) → n < 2 ^ d → ones n ≡ ones_in d n
unfolding ones ones_in
few_ones zero n h = let none : n ≡ 0 = omega arith in ap ones none
few_ones (suc d) n h = ones_step n ∙ ap (λ k. n % 2 + k) (few_ones d (n / 2) (omega (arith, pow-suc 2 d)))

pub placed : (p : Prefix) → number p ≡ place p
placed p =
    ap (λ k. 2 * (p.address / 256) + p.length - k)
    (cond_both (ltb (p.address / 256) (2 ^ 24)) (ones_in 24 (p.address / 256)) (ones (p.address / 256)) (λ k. ones (p.address / 256) ≡ k) (λ h. few_ones 24 (p.address / 256) (ltb-true _ _ h)) (λ _. refl))

-- rows that differ at p alone
count_one : (m p : ℕ) (f g : ℕ → Bool) → ((q : ℕ) → (q ≡ p → ⊥) → g q ≡ f q) → count_of m g + cond (ltb p m) 0 1 ≤ count_of m f + 1
unfolding count_of
count_one zero p f g h = grind (arith, tests)
count_one (suc m) p f g h =
    let before = count_one m p f g h in
    ⊎_elim
    (λ e. at_p (g m) (f m) (count_of m g) (count_of m f) e before)
    (λ ne. elsewhere (g m) (f m) (count_of m g) (count_of m f) ne (h m ne) before)
    (cases_eq m p)
  where
    at_p : (b c : Bool) (x y : ℕ) → m ≡ p → x + cond (ltb p m) 0 1 ≤ y + 1 → (cond b 1 0 + x) + cond (ltb p (suc m)) 0 1 ≤ (cond c 1 0 + y) + 1
    at_p b c x y e k = grind (arith, tests)

    elsewhere : (b c : Bool) (x y : ℕ) → (m ≡ p → ⊥) → b ≡ c → x + cond (ltb p m) 0 1 ≤ y + 1 → (cond b 1 0 + x) + cond (ltb p (suc m)) 0 1 ≤ (cond c 1 0 + y) + 1
    elsewhere b c x y ne e k = grind (arith, tests)

module _ (i p : ℕ) (x : Option Route) (f : Received) where
  there : (q : ℕ) → (q ≡ p → ⊥) → is_route (updated i p x f i q) ≡ is_route (f i q)
  there q ne = ap is_route (unlike (f i q))
    where
      unlike : (y : Option Route) → cond (eqb i i && eqb q p) x y ≡ y
      unlike y = grind (arith, tests)

  other_peer : (j : ℕ) → (j ≡ i → ⊥) → (q : ℕ) → is_route (updated i p x f j q) ≡ true → is_route (f j q) ≡ true
  other_peer j ne q h = sym (ap is_route (unlike (f j q))) ∙ h
    where
      unlike : (y : Option Route) → cond (eqb j i && eqb q p) x y ≡ y
      unlike y = grind (arith, tests)

  -- one announcement more takes at most one place more
  stored_one : (n m : ℕ) → stored n m (updated i p x f) + cond (ltb i n) 0 1 ≤ stored n m f + 1
  unfolding stored
  stored_one zero m = grind (arith, tests)
  stored_one (suc n) m =
      let before = stored_one n m in
      ⊎_elim
      (λ e. at_i (count_of m (λ q. is_route (updated i p x f n q))) (count_of m (λ q. is_route (f n q))) (stored n m (updated i p x f)) (stored n m f) e (subst (λ j. count_of m (λ q. is_route (updated i p x f j q)) ≤ count_of m (λ q. is_route (f j q)) + 1) (sym e) row_i) before)
      (λ ne. elsewhere (count_of m (λ q. is_route (updated i p x f n q))) (count_of m (λ q. is_route (f n q))) (stored n m (updated i p x f)) (stored n m f) ne (count_more m (λ q. is_route (updated i p x f n q)) (λ q. is_route (f n q)) (other_peer n ne)) before)
      (cases_eq n i)
    where
      row_i : count_of m (λ q. is_route (updated i p x f i q)) ≤ count_of m (λ q. is_route (f i q)) + 1
      row_i = omega (arith, count_one m p (λ q. is_route (f i q)) (λ q. is_route (updated i p x f i q)) there)

      at_i : (a b c d : ℕ) → n ≡ i → a ≤ b + 1 → c + cond (ltb i n) 0 1 ≤ d + 1 → (a + c) + cond (ltb i (suc n)) 0 1 ≤ (b + d) + 1
      at_i a b c d e h k = grind (arith, tests)

      elsewhere : (a b c d : ℕ) → (n ≡ i → ⊥) → a ≤ b → c + cond (ltb i n) 0 1 ≤ d + 1 → (a + c) + cond (ltb i (suc n)) 0 1 ≤ (b + d) + 1
      elsewhere a b c d ne h k = grind (arith, tests)

  pub stored_more_by_one : (n m : ℕ) → stored n m (updated i p x f) ≤ stored n m f + 1
  stored_more_by_one n m = omega (arith, stored_one n m)

withdrawn_less : (n m i p : ℕ) (f : Received) → stored n m (updated i p None f) ≤ stored n m f
withdrawn_less n m i p f = stored_more n m (updated i p None f) f (λ j q. less j q (f j q))
  where
    less : (j q : ℕ) (y : Option Route) → is_route (cond (eqb j i && eqb q p) None y) ≡ true → is_route y ≡ true
    less j q y h = grind (arith, tests)

down_less : (n m : ℕ) (is : List ℕ) (s : Now) → stored n m (all_down is s).received ≤ stored n m s.received
unfolding all_down
down_less n m [] s = omega arith
down_less n m (i ∷ is) s = omega (arith, cleared_stored n m i (all_down is s).received, down_less n m is s)

module _ (z : Size) (rules : Rules) where
  abbrev kept : Now → ℕ
  kept s = stored z.peers z.prefixes s.received

  announced_kept : (i p : ℕ) (x : Option Route) (s : Now) → kept (says_freely z i p x s) ≤ suc (kept s)
  announced_kept i p x s =
      cond_both (ltb i z.peers && (ltb p z.prefixes && s.up i)) _ s (λ t. kept t ≤ suc (kept s))
      (λ _. omega (arith, stored_more_by_one i p x s.received z.peers z.prefixes))
      (λ _. omega arith)

  withdrawn_kept : (i p : ℕ) (s : Now) → kept (says_freely z i p None s) ≤ kept s
  withdrawn_kept i p s =
      cond_both (ltb i z.peers && (ltb p z.prefixes && s.up i)) _ s (λ t. kept t ≤ kept s)
      (λ _. withdrawn_less z.peers z.prefixes i p s.received)
      (λ _. omega arith)

  -- no more is kept than was announced
  free_stored : (es : List Event) → kept (freely z rules es) ≤ announcements es
  unfolding freely announcements after
  free_stored [] = in_capacity (record { peers = z.peers; prefixes = z.prefixes; capacity = 0 }) rules []
  free_stored (Announces i r ∷ es) = omega (arith, announced_kept i (place r.prefix) (Some r) (freely z rules es), free_stored es)
  free_stored (Withdraws i p ∷ es) = omega (arith, withdrawn_kept i p (freely z rules es), free_stored es)
  free_stored (Establishes i ∷ es) = omega (arith, cleared_stored z.peers z.prefixes i (freely z rules es).received, free_stored es)
  free_stored (GoDown is ∷ es) = omega (arith, down_less z.peers z.prefixes is (freely z rules es), free_stored es)
  free_stored (PutInForce imports exports ∷ es) = free_stored es

  says_free : (i p : ℕ) (x : Option Route) (s : Now) → stored z.peers z.prefixes (updated i p x s.received) ≤ z.capacity → says z i p x s ≡ says_freely z i p x s
  says_free i p x s h = ap (λ t. cond (ltb i z.peers && (ltb p z.prefixes && s.up i)) t s) (cond-true (leb (stored z.peers z.prefixes (updated i p x s.received)) z.capacity) _ (down i s) (le-leb _ _ h))

  -- where there is room for all announcements, all count
  pub free_after : (es : List Event) → announcements es ≤ z.capacity → after z rules es ≡ freely z rules es
  unfolding freely announcements after
  free_after [] h = refl
  free_after (Announces i r ∷ es) h =
      ap (λ p. says z i p (Some r) (after z rules es)) (placed r.prefix) ∙
      ap (says z i (place r.prefix) (Some r)) (free_after es (omega arith)) ∙
      says_free i (place r.prefix) (Some r) (freely z rules es) (omega (arith, stored_more_by_one i (place r.prefix) (Some r) (freely z rules es).received z.peers z.prefixes, free_stored es))
  free_after (Withdraws i p ∷ es) h =
      ap (says z i p None) (free_after es h) ∙
      says_free i p None (freely z rules es) (omega (arith, withdrawn_less z.peers z.prefixes i p (freely z rules es).received, free_stored es))
  free_after (Establishes i ∷ es) h = ap (step z (Establishes i)) (free_after es h)
  free_after (GoDown is ∷ es) h = ap (all_down is) (free_after es h)
  free_after (PutInForce imports exports ∷ es) h = ap (step z (PutInForce imports exports)) (free_after es h)

pub room_before : (e : Event) (es : List Event) → announcements es ≤ announcements (e ∷ es)
unfolding announcements
room_before (Announces i r) es = omega arith
room_before (Withdraws i p) es = omega arith
room_before (Establishes i) es = omega arith
room_before (GoDown is) es = omega arith
room_before (PutInForce imports exports) es = omega arith
