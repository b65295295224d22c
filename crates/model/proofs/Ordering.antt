-- The order in which peers are told, and who is told. Assumes nothing.
use Rattle.std.proofs.Common.{◌≡◌, ℕ, zero, suc, ◌<◌, Bool, true, false, cond, ◌&&◌, ◌||◌, eqb, ltb, List, [], ◌∷◌, ◌++◌, length, get_or, Option, sym, refl, ap, ◌∙◌, subst, ⊎_elim, arith}
use Rattle.route.specs.Same.{same_option}
use Rattle.model.specs.Updates.{Update, Held, tell_if, row, updates, precedes, precedes_all, in_order}
use Rattle.route.specs.Route.{Route}
use Rattle.std.proofs.lemmas.Bool.{cases_Bool, cond-true, cond-false, and_parts, and_from}
use Rattle.std.proofs.lemmas.Bool.Decides.{nat_tests as tests}

-- each of the list is so
unfoldable pub All : (Update → Type 0) → List Update → Type 0
All P [] = Unit {0}
All P (u ∷ us) = P u × All P us

all_append : (P : Update → Type 0) (us vs : List Update) → All P us → All P vs → All P (us ++ vs)
unfolding All
all_append P [] vs a b = b
all_append P (u ∷ us) vs a b = (a.0, all_append P us vs a.1 b)

all_more : (P Q : Update → Type 0) → ((u : Update) → P u → Q u) → (us : List Update) → All P us → All Q us
unfolding All
all_more P Q h [] a = tt
all_more P Q h (u ∷ us) a = (h u a.0, all_more P Q h us a.1)

all_cond : (P : Update → Type 0) (b : Bool) (us vs : List Update) → (b ≡ true → All P us) → (b ≡ false → All P vs) → All P (cond b us vs)
all_cond P true us vs h k = h refl
all_cond P false us vs h k = k refl

pub all_at : (P : Update → Type 0) (us : List Update) (k : ℕ) (u : Update) → All P us → k < length us → get_or us k u ≡ u → P u
unfolding All
all_at P [] k u a h e = absurd (omega arith)
all_at P (x ∷ us) zero u a h e = subst P e a.0
all_at P (x ∷ us) (suc k) u a h e = all_at P us k u a.1 (omega arith) e

-- to whom and of what
abbrev Of : ℕ → ℕ → Update → Type 0
Of j m u = (u.peer ≡ j) × (u.prefix < m)

row_of : (j : ℕ) (old new : ℕ → Option Route) (m : ℕ) → All (Of j m) (row j old new m)
unfolding All row
row_of j old new zero = tt
row_of j old new (suc m) =
    all_append (Of j (suc m)) (row j old new m) (tell_if j m (old m) (new m))
    (all_more (Of j m) (Of j (suc m)) (λ u h. (h.0, omega (arith, h.1))) (row j old new m) (row_of j old new m))
    (all_cond (Of j (suc m)) (same_option (new m) (old m)) [] (record { peer = j; prefix = m; route = new m } ∷ []) (λ _. tt) (λ _. ((refl, omega arith), tt)))

abbrev pub ToUp : (ℕ → Bool) → ℕ → Update → Type 0
ToUp up n u = (u.peer < n) × (up u.peer ≡ true)

pub updates_to_up : (m : ℕ) (up : ℕ → Bool) (old new : Held) (n : ℕ) → All (ToUp up n) (updates m up old new n)
unfolding All updates
updates_to_up m up old new zero = tt
updates_to_up m up old new (suc n) =
    all_append (ToUp up (suc n)) (updates m up old new n) (cond (up n) (row n (old n) (new n) m) [])
    (all_more (ToUp up n) (ToUp up (suc n)) (λ u h. (omega (arith, h.0), h.1)) (updates m up old new n) (updates_to_up m up old new n))
    (all_cond (ToUp up (suc n)) (up n) (row n (old n) (new n) m) [] (λ h. all_more (Of n m) (ToUp up (suc n)) (λ u o. (omega (arith, o.0), ap up o.0 ∙ h)) (row n (old n) (new n) m) (row_of n (old n) (new n) m)) (λ _. tt))

precedes_all_lem : (u : Update) (us : List Update) → All (λ v. precedes u v ≡ true) us → precedes_all u us ≡ true
unfolding All precedes_all
precedes_all_lem u [] a = refl
precedes_all_lem u (v ∷ us) a = and_from (precedes u v) (precedes_all u us) a.0 (precedes_all_lem u us a.1)

all_preceded : (u : Update) (us : List Update) → precedes_all u us ≡ true → All (λ v. precedes u v ≡ true) us
unfolding All precedes_all
all_preceded u [] h = tt
all_preceded u (v ∷ us) h = let parts = and_parts (precedes u v) (precedes_all u us) h in (parts.0, all_preceded u us parts.1)

-- two rows in order, one before the other
order_append : (us vs : List Update) → in_order us ≡ true → in_order vs ≡ true → All (λ u. All (λ v. precedes u v ≡ true) vs) us → in_order (us ++ vs) ≡ true
unfolding All in_order
order_append [] vs a b c = b
order_append (u ∷ us) vs a b c =
    let parts = and_parts (precedes_all u us) (in_order us) a in
    and_from (precedes_all u (us ++ vs)) (in_order (us ++ vs)) (precedes_all_lem u (us ++ vs) (all_append (λ v. precedes u v ≡ true) us vs (all_preceded u us parts.0) c.0)) (order_append us vs parts.1 b c.1)

order_one : (b : Bool) (u : Update) → in_order (cond b [] (u ∷ [])) ≡ true
unfolding in_order precedes_all
order_one true u = refl
order_one false u = refl

lower_prefix : (u v : Update) (j m : ℕ) → Of j m u → v.peer ≡ j → v.prefix ≡ m → precedes u v ≡ true
lower_prefix u v j m o e f = before u.peer u.prefix v.peer v.prefix (o.0 ∙ sym e) (omega (arith, o.1))
  where
    before : (a b c d : ℕ) → a ≡ c → b < d → (ltb a c || (eqb a c && ltb b d)) ≡ true
    before a b c d x y = grind (arith, tests)

lower_peer : (u v : Update) → u.peer < v.peer → precedes u v ≡ true
lower_peer u v h = before u.peer v.peer (eqb u.peer v.peer && ltb u.prefix v.prefix) h
  where
    before : (a b : ℕ) (c : Bool) → a < b → (ltb a b || c) ≡ true
    before a b c h = grind (arith, tests)

row_ordered : (j : ℕ) (old new : ℕ → Option Route) (m : ℕ) → in_order (row j old new m) ≡ true
unfolding All in_order row
row_ordered j old new zero = refl
row_ordered j old new (suc m) =
    let last : Update = record { peer = j; prefix = m; route = new m } in
    order_append (row j old new m) (tell_if j m (old m) (new m)) (row_ordered j old new m) (order_one (same_option (new m) (old m)) last)
    (all_more (Of j m) (λ u. All (λ v. precedes u v ≡ true) (tell_if j m (old m) (new m)))
    (λ u o. all_cond (λ v. precedes u v ≡ true) (same_option (new m) (old m)) [] (last ∷ []) (λ _. tt) (λ _. (lower_prefix u last j m o refl refl, tt)))
    (row j old new m) (row_of j old new m))

pub updates_ordered : (m : ℕ) (up : ℕ → Bool) (old new : Held) (n : ℕ) → in_order (updates m up old new n) ≡ true
unfolding All in_order updates
updates_ordered m up old new zero = refl
updates_ordered m up old new (suc n) =
    let here = row n (old n) (new n) m in
    order_append (updates m up old new n) (cond (up n) here []) (updates_ordered m up old new n)
    (⊎_elim (λ h. ap in_order (cond-true (up n) here [] h) ∙ row_ordered n (old n) (new n) m) (λ h. ap in_order (cond-false (up n) here [] h)) (cases_Bool (up n)))
    (all_more (ToUp up n) (λ u. All (λ v. precedes u v ≡ true) (cond (up n) here []))
    (λ u o. all_cond (λ v. precedes u v ≡ true) (up n) here [] (λ _. all_more (Of n m) (λ v. precedes u v ≡ true) (λ v q. lower_peer u v (omega (arith, o.0, q.0))) here (row_of n (old n) (new n) m)) (λ _. tt))
    (updates m up old new n) (updates_to_up m up old new n))
