-- How many routes are kept. Assumes nothing.
use Rattle.std.proofs.Common.{◌≡◌, ℕ, zero, suc, ◌+◌, ◌-◌, ◌<◌, ◌≤◌, Bool, false, cond, sym, refl, ap, ◌∙◌, subst, ⊎_elim, arith}
use Rattle.rib.specs.Received.{Received, is_route, count_of, stored}
use Rattle.std.proofs.lemmas.Bool.{cases_eq}
use Rattle.std.proofs.lemmas.Bool.Decides.{nat_tests as tests}

-- what is so here is so there, or there
count_within : (m : ℕ) (f g h : ℕ → Bool) → ((p : ℕ) → f p ≡ false → h p ≡ false → g p ≡ false) → count_of m g ≤ count_of m f + count_of m h
unfolding count_of
count_within zero f g h only = omega arith
count_within (suc m) f g h only = let more = count_within m f g h only in let here = only m in grind (arith, tests)

count_same : (m : ℕ) (f g : ℕ → Bool) → ((p : ℕ) → g p ≡ f p) → count_of m g ≡ count_of m f
unfolding count_of
count_same zero f g h = refl
count_same (suc m) f g h = λ t. cond (h m t) 1 0 + count_same m f g h t

stored_same : (n m : ℕ) (f g : Received) → ((j p : ℕ) → j < n → g j p ≡ f j p) → stored n m g ≡ stored n m f
unfolding stored
stored_same zero m f g h = refl
stored_same (suc n) m f g h = λ t. count_same m (λ p. is_route (f n p)) (λ p. is_route (g n p)) (λ p. ap is_route (h n p (omega arith))) t + stored_same n m f g (λ j p l. h j p (omega arith)) t

-- where only what peer i announced is other, no more routes are kept than before and those that it had not
pub stored_within : (n m : ℕ) (f g : Received) (i : ℕ) (h : ℕ → Bool) → ((j p : ℕ) → (j ≡ i → ⊥) → g j p ≡ f j p) → ((p : ℕ) → is_route (f i p) ≡ false → h p ≡ false → is_route (g i p) ≡ false) → stored n m g ≤ stored n m f + count_of m h
unfolding stored
stored_within zero m f g i h others only = omega arith
stored_within (suc n) m f g i h others only =
    ⊎_elim
    (λ same.
    let here = count_within m (λ p. is_route (f n p)) (λ p. is_route (g n p)) h (λ p a e. ap (λ j. is_route (g j p)) same ∙ only p (ap (λ j. is_route (f j p)) (sym same) ∙ a) e) in
    let below = stored_same n m f g (λ j p l. others j p (λ e. omega arith)) in
    omega arith)
    (λ other.
    let here = count_same m (λ p. is_route (f n p)) (λ p. is_route (g n p)) (λ p. ap is_route (others n p other)) in
    let below = stored_within n m f g i h others only in
    omega arith)
    (cases_eq n i)

-- of more peers more is kept
stored_peers : (d n m : ℕ) (f : Received) → stored n m f ≤ stored (d + n) m f
unfolding stored
stored_peers zero n m f = let e : 0 + n ≡ n = omega arith in omega (arith, ap (λ k. stored k m f) e)
stored_peers (suc d) n m f = let e : suc d + n ≡ suc (d + n) = omega arith in omega (arith, ap (λ k. stored k m f) e, stored_peers d n m f)

pub stored_rises : (n k m : ℕ) (f : Received) → n ≤ k → stored n m f ≤ stored k m f
stored_rises n k m f h = let e : k - n + n ≡ k = omega arith in subst (λ j. stored n m f ≤ stored j m f) e (stored_peers (k - n) n m f)
