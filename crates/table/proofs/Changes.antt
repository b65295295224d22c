-- What a table holds, and what each change makes of it. Assumes nothing.
use Rattle.std.proofs.Common.{◌≡◌, ℕ, ◌+◌, ◌*◌, ◌%◌, ◌<◌, ◌≤◌, true, cond, eqb, List, [], ◌∷◌, length, length-set, get_or, set, not, Some, None, Option, sym, ap, ◌∙◌, subst, ⊎_elim, arith}
use Rattle.prefix.specs.Meant.{meant}
use Rattle.prefix.specs.Prefix.{count, number}
use Rattle.rib.specs.Received.{Announced, Received, Same, Silent, Unannounced, cleared, is_route, most_peers, stored, updated}
use Rattle.route.specs.Meant.{route_of}
use Rattle.route.specs.Route.{Route}
use Rattle.std.proofs.lemmas.Bool.{cases_eq, cases_lt}
use Rattle.std.proofs.lemmas.Bool.Decides.{nat_tests}
use Rattle.std.proofs.lemmas.List.Edits.{length-insert}
use Rattle.std.proofs.lemmas.List.Kept.{AllPairs-filter}
use Rattle.std.specs.List.{insert, remove}
use Rattle.table.proofs.Counting.{inside, outside, same_stored, stored_is}
use Rattle.table.proofs.Lookups.{added, hit, kept, missing, overwritten, taken}
use Rattle.table.proofs.Orders.{rises_inserted, rises_removed, rises_set}
use Rattle.table.specs.Steps.{AbsentLaws, FoundLaws}
use Rattle.table.specs.Table.{Absent, FirstBetween, Found, NoneBetween, Rises, key_of, others, received_of, route_at}
use Rattle.table.specs.declared.entry.Entry.{Entry}

-- from the route of each key to what was received
turned : (es new : List Entry) (peer prefix : ℕ) (x : Option Route) → peer < most_peers
    → ((key : ℕ) → route_at key new ≡ cond (eqb key (key_of peer prefix)) x (route_at key es)) → Same (received_of new) (updated peer prefix x (received_of es))
turned es new peer prefix x small h j q =
    ⊎_elim
    (λ l. let was = inside es j q l in let is = inside new j q l in let e = h (key_of j q) in grind (arith, nat_tests))
    (λ l. let was = outside es j q l in let is = outside new j q l in grind (arith, nat_tests))
    (cases_lt j most_peers)

-- the peer of an entry is one that there can be
small_peer : (e : Entry) (peer prefix : ℕ) → e.key ≡ key_of peer prefix → peer < 256 → peer < most_peers
small_peer e peer prefix at byte = let p = e.of_peer in omega arith

-- an entry's route was received
read : (es : List Entry) (peer prefix i : ℕ) (e : Entry) → Rises es → peer < 256 → i < length es → e ≡ get_or es i e → e.key ≡ key_of peer prefix → received_of es peer prefix ≡ Some (route_of e.route)
read es peer prefix i e rises byte within is at =
    let here : (get_or es i e).key ≡ key_of peer prefix = sym (ap (λ x. x.key) is) ∙ at in
    inside es peer prefix (small_peer e peer prefix at byte) ∙ hit (key_of peer prefix) es i e within here (λ j l. subst (λ n. (get_or es j e).key < n) here (rises j i e l within)) ∙ ap (λ x. Some (route_of x.route)) (sym is)

-- what is changed at one key is counted by the entries of the row that it makes
counted : (es new : List Entry) (peer prefix : ℕ) (x : Option Route) → Rises new → Same (received_of new) (updated peer prefix x (received_of es)) → stored most_peers count (updated peer prefix x (received_of es)) ≡ length new
counted es new peer prefix x rises same = same_stored most_peers count (received_of new) (updated peer prefix x (received_of es)) (λ j q. sym (same j q)) ∙ stored_is new rises

found_peer : (es : List Entry) (peer prefix i : ℕ) → peer < 256 → Found es (key_of peer prefix) i → peer < most_peers
found_peer [] peer prefix i byte at = absurd (let l = at.within in omega arith)
found_peer (e ∷ es) peer prefix i byte at = small_peer (get_or (e ∷ es) i e) peer prefix (at.at e) byte

pub found_laws : (es : List Entry) (peer prefix i : ℕ) → Rises es → peer < 256 → Found es (key_of peer prefix) i → FoundLaws es peer prefix i
found_laws es peer prefix i rises byte at =
    let key = key_of peer prefix in
    let small = found_peer es peer prefix i byte at in
    let before : (j : ℕ) (d : Entry) → j < i → (get_or es j d).key < key = λ j d l. subst (λ n. (get_or es j d).key < n) (at.at d) (rises j i d l at.within) in
    let behind : (j : ℕ) (d : Entry) → i < j → j < length es → key < (get_or es j d).key = λ j d l h. subst (λ n. n < (get_or es j d).key) (at.at d) (rises i j d l h) in
    let set_rises = λ (e : Entry) (same : e.key ≡ key). rises_set es key i e at same rises in
    let set_same = λ (e : Entry) (same : e.key ≡ key).
    turned es (set es i e) peer prefix (Some (route_of e.route)) small
    (λ k. overwritten k es i e at.within (at.at e ∙ sym same) (λ j l. subst (λ n. (get_or es j e).key < n) (sym same) (before j e l)) ∙ ap (λ n. cond (eqb k n) (Some (route_of e.route)) (route_at k es)) same) in
    record {
      at = at;
      is = λ e is. sym (read es peer prefix i e rises byte at.within is (subst (λ x. x.key ≡ key) (sym is) (at.at e)));
      set_rises = set_rises;
      set = set_same;
      set_many = λ e same. counted es (set es i e) peer prefix (Some (route_of e.route)) (set_rises e same) (set_same e same) ∙ length-set es i e;
      removed_rises = rises_removed es i at.within rises;
      removed = turned es (remove es i) peer prefix None small (λ k. taken k key es i at.within at.at before behind);
    }

-- where no key stands, nothing was received
none_between : (es : List Entry) (peer prefix a b : ℕ) → NoneBetween es a b → (peer < most_peers → a ≤ key_of peer prefix) → (peer < most_peers → key_of peer prefix < b) → received_of es peer prefix ≡ None
none_between es peer prefix a b none low high =
    ⊎_elim
    (λ l. let x = low l in let y = high l in inside es peer prefix l ∙ missing (key_of peer prefix) es (λ j d h at. none.none j d h (omega arith) (omega arith)))
    (λ l. outside es peer prefix l)
    (cases_lt peer most_peers)

unchanged : (f : Received) (peer prefix : ℕ) → f peer prefix ≡ None → Same f (updated peer prefix None f)
unchanged f peer prefix none j q =
    ⊎_elim
    (λ a. ⊎_elim (λ b. let e = ap (λ x. f x q) a ∙ ap (λ y. f peer y) b in grind (arith, nat_tests)) (λ b. grind (arith, nat_tests)) (cases_eq q prefix))
    (λ a. grind (arith, nat_tests))
    (cases_eq j peer)

pub absent_laws : (es : List Entry) (peer prefix i : ℕ) → Rises es → peer < 256 → Absent es (key_of peer prefix) i → AbsentLaws es peer prefix i
absent_laws es peer prefix i rises byte at =
    let key = key_of peer prefix in
    let none : received_of es peer prefix ≡ None = none_between es peer prefix key (key + 1)
    (record { none = λ j d l low high. ⊎_elim (λ b. let less = at.before j d (omega arith) b in omega arith) (λ b. let more = at.behind j d b l in omega arith) (cases_lt j i) })
    (λ l. omega arith) (λ l. omega arith) in
    let added_rises = λ (e : Entry) (same : e.key ≡ key). rises_inserted es key i e at same rises in
    let added_same = λ (e : Entry) (same : e.key ≡ key).
    turned es (insert es i e) peer prefix (Some (route_of e.route)) (small_peer e peer prefix same byte)
    (λ k. added k es i e at.within (λ j l. subst (λ n. (get_or es j e).key < n) (sym same) (at.before j e (omega arith) l)) ∙ ap (λ n. cond (eqb k n) (Some (route_of e.route)) (route_at k es)) same) in
    record {
      at = at;
      none = sym none;
      same = unchanged (received_of es) peer prefix none;
      added_rises = added_rises;
      added = added_same;
      added_many = λ e same. counted es (insert es i e) peer prefix (Some (route_of e.route)) (added_rises e same) (added_same e same) ∙ length-insert es i e at.within;
    }

pub silent : (es : List Entry) (prefix a b from until : ℕ) → NoneBetween es from until → from ≡ key_of a prefix → until ≡ key_of b prefix → Silent (received_of es) prefix a b
silent es prefix a b from until none low high = record { none = λ i l h. none_between es i prefix from until none (λ small. omega arith) (λ small. omega arith) }

-- where an entry stands, its peer has announced its prefix
pub announced_at : (es : List Entry) (prefix peer i : ℕ) (e : Entry) → Rises es → i < length es → e ≡ get_or es i e → e.key ≡ key_of peer prefix → peer < 256 → is_route (received_of es peer prefix) ≡ true
announced_at es prefix peer i e rises within is at byte = ap is_route (read es peer prefix i e rises byte within is at)

pub announced : (es : List Entry) (prefix peer a b : ℕ) (e : Entry) → Rises es → FirstBetween es a b e → e.key ≡ key_of peer prefix → peer < 256 → is_route (received_of es peer prefix) ≡ true
announced es prefix peer a b e rises first at byte = announced_at es prefix peer first.place e rises first.within first.is at byte

pub unannounced : (es : List Entry) (a b : ℕ) → NoneBetween es (a * 256) (b * 256) → Unannounced (received_of es) a b
unannounced es a b none = record { none = λ i p l h. none_between es i p (a * 256) (b * 256) none (λ small. omega arith) (λ small. omega arith) }

pub lowest : (es : List Entry) (a b : ℕ) (e : Entry) → FirstBetween es (a * 256) b e → (a ≤ number (meant e.route.prefix)) × Unannounced (received_of es) a (number (meant e.route.prefix))
lowest es a b e first =
    let p = e.of_prefix in
    let low = first.low in
    (omega arith, record { none = λ j p l h. none_between es j p (a * 256) e.key first.lower (λ small. omega arith) (λ small. omega arith) })

-- and so somebody has
pub somebody_at : (es : List Entry) (i : ℕ) (e : Entry) → Rises es → i < length es → e ≡ get_or es i e → Announced (received_of es) (number (meant e.route.prefix))
somebody_at es i e rises within is =
    let p = e.of_prefix in
    let small = e.of_peer in
    record { peer = e.key % 256; has_route = announced_at es (number (meant e.route.prefix)) (e.key % 256) i e rises within is (omega arith) (omega arith) }

pub somebody : (es : List Entry) (a b : ℕ) (e : Entry) → Rises es → FirstBetween es a b e → Announced (received_of es) (number (meant e.route.prefix))
somebody es a b e rises first = somebody_at es first.place e rises first.within first.is

pub rises_cleared : (es : List Entry) (peer : ℕ) → Rises es → Rises (others peer es)
rises_cleared es peer rises = AllPairs-filter (λ x y. x.key < y.key) (λ e. not (eqb (e.key % 256) peer)) es rises

pub cleared_is : (es : List Entry) (peer : ℕ) → Same (received_of (others peer es)) (cleared peer (received_of es))
cleared_is es peer j q =
    ⊎_elim
    (λ l. let was = inside es j q l in let is = inside (others peer es) j q l in let e = kept (key_of j q) peer es in let byte : key_of j q % 256 ≡ j = omega arith in grind (arith, nat_tests))
    (λ l. let was = outside es j q l in let is = outside (others peer es) j q l in grind (arith, nat_tests))
    (cases_lt j most_peers)
