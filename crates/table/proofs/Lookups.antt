-- What route a key has after each change of the row. Assumes nothing.
use Rattle.std.proofs.Common.{◌≡◌, ℕ, zero, suc, ◌%◌, ◌<◌, ◌≤◌, cond, eqb, List, [], ◌∷◌, length, get_or, set, Some, None, refl, ap, ◌∙◌, ⊎_elim, arith}
use Rattle.route.specs.Meant.{route_of}
use Rattle.std.proofs.lemmas.Bool.{cases_eq, cond_both, eq-eqb, ne_eqb}
use Rattle.std.proofs.lemmas.Bool.Decides.{nat_tests}
use Rattle.std.specs.List.{All, insert, remove}
use Rattle.table.specs.Table.{route_at, others}
use Rattle.table.specs.declared.entry.Entry.{Entry}

pub missing : (key : ℕ) (es : List Entry) → All (λ e. e.key ≡ key → ⊥) es → route_at key es ≡ None
unfolding route_at
missing key [] h = refl
missing key (e ∷ es) h =
    let other = ne_eqb e.key key (h 0 e (omega arith)) in
    let rest = missing key es (λ j d l. h (suc j) d (omega arith)) in
    ap (λ b. cond b (Some (route_of e.route)) (route_at key es)) other ∙ rest

pub hit : (key : ℕ) (es : List Entry) (i : ℕ) (d : Entry) → i < length es → (get_or es i d).key ≡ key → ((j : ℕ) → j < i → (get_or es j d).key < key) → route_at key es ≡ Some (route_of (get_or es i d).route)
unfolding route_at
hit key [] i d l at before = absurd (omega arith)
hit key (e ∷ es) zero d l at before = ap (λ b. cond b (Some (route_of e.route)) (route_at key es)) (eq-eqb e.key key at)
hit key (e ∷ es) (suc i) d l at before =
    let less = before 0 (omega arith) in
    let other = ne_eqb e.key key (λ same. omega arith) in
    let rest = hit key es i d (omega arith) at (λ j g. before (suc j) (omega arith)) in
    ap (λ b. cond b (Some (route_of e.route)) (route_at key es)) other ∙ rest

pub overwritten : (key : ℕ) (es : List Entry) (i : ℕ) (e : Entry) → i < length es → (get_or es i e).key ≡ e.key → ((j : ℕ) → j < i → (get_or es j e).key < e.key) → route_at key (set es i e) ≡ cond (eqb key e.key) (Some (route_of e.route)) (route_at key es)
unfolding route_at
overwritten key [] i e l at before = absurd (omega arith)
overwritten key (x ∷ xs) zero e l at before = grind (arith, nat_tests)
overwritten key (x ∷ xs) (suc i) e l at before =
    let less = before 0 (omega arith) in
    let rest = overwritten key xs i e (omega arith) at (λ j g. before (suc j) (omega arith)) in
    grind (arith, nat_tests)

pub added : (key : ℕ) (es : List Entry) (i : ℕ) (e : Entry) → i ≤ length es → ((j : ℕ) → j < i → (get_or es j e).key < e.key) → route_at key (insert es i e) ≡ cond (eqb key e.key) (Some (route_of e.route)) (route_at key es)
unfolding route_at
added key es zero e l before = grind (arith, nat_tests)
added key [] (suc i) e l before = absurd (omega arith)
added key (x ∷ xs) (suc i) e l before =
    let less = before 0 (omega arith) in
    let rest = added key xs i e (omega arith) (λ j g. before (suc j) (omega arith)) in
    grind (arith, nat_tests)

pub taken : (key k : ℕ) (es : List Entry) (i : ℕ) → i < length es → ((d : Entry) → (get_or es i d).key ≡ k) → ((j : ℕ) (d : Entry) → j < i → (get_or es j d).key < k) → ((j : ℕ) (d : Entry) → i < j → j < length es → k < (get_or es j d).key) → route_at key (remove es i) ≡ cond (eqb key k) None (route_at key es)
unfolding route_at
taken key k [] i l at before behind = absurd (omega arith)
taken key k (e ∷ es) zero l at before behind =
    let here = at e in
    ⊎_elim
    (λ same. let none = missing key es (λ j d g is. let less = behind (suc j) d (omega arith) (omega arith) in omega arith) in grind (arith, nat_tests))
    (λ other. grind (arith, nat_tests))
    (cases_eq key k)
taken key k (e ∷ es) (suc i) l at before behind =
    let less = before 0 e (omega arith) in
    let rest = taken key k es i (omega arith) at (λ j d g. before (suc j) d (omega arith)) (λ j d g h. behind (suc j) d (omega arith) (omega arith)) in
    grind (arith, nat_tests)

pub kept : (key peer : ℕ) (es : List Entry) → route_at key (others peer es) ≡ cond (eqb (key % 256) peer) None (route_at key es)
unfolding route_at
kept key peer [] = cond_both (eqb (key % 256) peer) None None (λ x. None ≡ x) (λ e. refl) (λ e. refl)
kept key peer (e ∷ es) =
    let rest = kept key peer es in
    ⊎_elim
    (λ same. let e = ap (λ x. x % 256) same in grind (arith, nat_tests))
    (λ other. grind (arith, nat_tests))
    (cases_eq e.key key)
