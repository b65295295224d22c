-- How many routes are kept. Assumes nothing.
use Rattle.std.proofs.Common.{◌≡◌, ℕ, zero, suc, ◌+◌, ◌/◌, ◌%◌, ◌<◌, ◌≤◌, Bool, true, false, cond, List, [], ◌∷◌, length, Some, None, sym, refl, ap, ◌∙◌, ⊎_elim, arith}
use Rattle.prefix.proofs.Order.{bounded}
use Rattle.prefix.specs.Meant.{meant}
use Rattle.prefix.specs.Prefix.{count}
use Rattle.rib.specs.Received.{Received, count_of, is_route, most_peers, stored}
use Rattle.route.specs.Meant.{route_of}
use Rattle.std.proofs.lemmas.Bool.{cases_eq, cases_lt, lt-ltb, le-ltb, eq-eqb, ne_eqb}
use Rattle.table.proofs.Lookups.{missing}
use Rattle.table.specs.Table.{Rises, key_of, received_of, route_at}
use Rattle.table.specs.declared.entry.Entry.{Entry}

count_same : (m : ℕ) (f g : ℕ → Bool) → ((p : ℕ) → p < m → g p ≡ f p) → count_of m g ≡ count_of m f
unfolding count_of
count_same zero f g h = refl
count_same (suc m) f g h =
    let here = ap (λ b. cond {A = ℕ} b 1 0) (h m (omega arith)) in
    let below = count_same m f g (λ p l. h p (omega arith)) in
    omega arith

-- one more prefix is so
count_more : (m : ℕ) (f g : ℕ → Bool) (p : ℕ) → p < m → f p ≡ false → g p ≡ true → ((q : ℕ) → (q ≡ p → ⊥) → g q ≡ f q) → count_of m g ≡ 1 + count_of m f
unfolding count_of
count_more zero f g p l off on others = absurd (omega arith)
count_more (suc m) f g p l off on others =
    ⊎_elim
    (λ same.
    let was = ap (λ b. cond {A = ℕ} b 1 0) (ap f (sym same) ∙ off) in
    let is = ap (λ b. cond {A = ℕ} b 1 0) (ap g (sym same) ∙ on) in
    let below = count_same m f g (λ q h. others q (λ e. omega arith)) in
    omega arith)
    (λ other.
    let here = ap (λ b. cond {A = ℕ} b 1 0) (others m (λ e. other (sym e))) in
    let below = count_more m f g p (omega arith) off on others in
    omega arith)
    (cases_eq p m)

stored_same : (n m : ℕ) (f g : Received) → ((i p : ℕ) → i < n → g i p ≡ f i p) → stored n m g ≡ stored n m f
unfolding stored
stored_same zero m f g h = refl
stored_same (suc n) m f g h =
    let here = count_same m (λ p. is_route (f n p)) (λ p. is_route (g n p)) (λ p l. ap is_route (h n p (omega arith))) in
    let below = stored_same n m f g (λ i p l. h i p (omega arith)) in
    omega arith

-- one more route is kept
stored_more : (n m : ℕ) (f g : Received) (i p : ℕ) → i < n → p < m → is_route (f i p) ≡ false → is_route (g i p) ≡ true → ((j q : ℕ) → (j ≡ i → q ≡ p → ⊥) → g j q ≡ f j q) → stored n m g ≡ 1 + stored n m f
unfolding stored
stored_more zero m f g i p l k off on others = absurd (omega arith)
stored_more (suc n) m f g i p l k off on others =
    ⊎_elim
    (λ same.
    let here = count_more m (λ q. is_route (f n q)) (λ q. is_route (g n q)) p k (ap (λ j. is_route (f j p)) (sym same) ∙ off) (ap (λ j. is_route (g j p)) (sym same) ∙ on) (λ q other. ap is_route (others n q (λ _ e. other e))) in
    let below = stored_same n m f g (λ j q h. others j q (λ e _. omega arith)) in
    omega arith)
    (λ other.
    let here = count_same m (λ q. is_route (f n q)) (λ q. is_route (g n q)) (λ q h. ap is_route (others n q (λ e _. other (sym e)))) in
    let below = stored_more n m f g i p (omega arith) k off on others in
    omega arith)
    (cases_eq i n)

count_none : (m : ℕ) (f : ℕ → Bool) → ((p : ℕ) → f p ≡ false) → count_of m f ≡ 0
unfolding count_of
count_none zero f h = refl
count_none (suc m) f h =
    let here = ap (λ b. cond {A = ℕ} b 1 0) (h m) in
    let below = count_none m f h in
    omega arith

stored_none : (n m : ℕ) (f : Received) → ((i p : ℕ) → f i p ≡ None) → stored n m f ≡ 0
unfolding stored
stored_none zero m f h = refl
stored_none (suc n) m f h =
    let here = count_none m (λ p. is_route (f n p)) (λ p. ap is_route (h n p)) in
    let below = stored_none n m f h in
    omega arith

pub same_stored : (n m : ℕ) (f g : Received) → ((i p : ℕ) → g i p ≡ f i p) → stored n m g ≡ stored n m f
same_stored n m f g h = stored_same n m f g (λ i p _. h i p)

pub inside : (es : List Entry) (i p : ℕ) → i < most_peers → received_of es i p ≡ route_at (key_of i p) es
unfolding received_of
inside es i p h = ap (λ b. cond b (route_at (key_of i p) es) None) (lt-ltb i most_peers h)

pub outside : (es : List Entry) (i p : ℕ) → most_peers ≤ i → received_of es i p ≡ None
unfolding received_of
outside es i p h = ap (λ b. cond b (route_at (key_of i p) es) None) (le-ltb i most_peers h)

pub nowhere : (i p : ℕ) → received_of [] i p ≡ None
nowhere i p =
    ⊎_elim
    (λ h. inside [] i p h ∙ missing (key_of i p) [] (λ j d l. absurd (omega arith)))
    (λ h. outside [] i p h)
    (cases_lt i most_peers)

first : (e : Entry) (es : List Entry) (i p : ℕ) → i < most_peers → key_of i p ≡ e.key → received_of (e ∷ es) i p ≡ Some (route_of e.route)
unfolding route_at
first e es i p h at = inside (e ∷ es) i p h ∙ ap (λ b. cond b (Some (route_of e.route)) (route_at (key_of i p) es)) (eq-eqb e.key (key_of i p) (sym at))

later : (e : Entry) (es : List Entry) (i p : ℕ) → (i < most_peers → key_of i p ≡ e.key → ⊥) → received_of (e ∷ es) i p ≡ received_of es i p
unfolding route_at
later e es i p other =
    ⊎_elim
    (λ h. inside (e ∷ es) i p h ∙ ap (λ b. cond b (Some (route_of e.route)) (route_at (key_of i p) es)) (ne_eqb e.key (key_of i p) (λ at. other h (sym at))) ∙ sym (inside es i p h))
    (λ h. outside (e ∷ es) i p h ∙ sym (outside es i p h))
    (cases_lt i most_peers)

-- a key is of a prefix that there is
pub prefixed : (e : Entry) → e.key / 256 < count
prefixed e = let p = e.of_prefix in let b = bounded (meant e.route.prefix) e.route.prefix.valid in omega arith

-- as many routes are kept as there are entries
pub stored_is : (es : List Entry) → Rises es → stored most_peers count (received_of es) ≡ length es
stored_is [] rises = stored_none most_peers count (received_of []) nowhere
stored_is (e ∷ es) rises =
    let i = e.key % 256 in
    let p = e.key / 256 in
    let whole : key_of i p ≡ e.key = omega arith in
    let off = inside es i p e.of_peer ∙ missing (key_of i p) es (λ j d l at. let less = rises 0 (suc j) d (omega arith) (omega arith) in omega arith) in
    let more =
    stored_more most_peers count (received_of es) (received_of (e ∷ es)) i p e.of_peer (prefixed e) (ap is_route off)
    (ap is_route (first e es i p e.of_peer whole)) (λ j q other. later e es j q (λ h at. other (omega arith) (omega arith))) in
    let rest = stored_is es (λ i j d l h. rises (suc i) (suc j) d (omega arith) (omega arith)) in
    omega arith
