-- Rows that rise still rise after each change. Assumes nothing.
use Rattle.std.proofs.Common.{◌≡◌, ℕ, ◌+◌, ◌-◌, ◌<◌, ◌≤◌, List, length, get_or, set, ap, subst, arith}
use Rattle.std.proofs.lemmas.Grind.{common_steps}
use Rattle.std.proofs.lemmas.List.Edits.{length-insert, length-remove, get_or-insert_below, get_or-insert_at, get_or-insert_above, get_or-remove_below, get_or-remove_above}
use Rattle.std.specs.List.{insert, remove}
use Rattle.table.specs.Table.{Absent, Found, Rises}
use Rattle.table.specs.declared.entry.Entry.{Entry}

pub rises_set : (es : List Entry) (key i : ℕ) (e : Entry) → Found es key i → e.key ≡ key → Rises es → Rises (set es i e)
rises_set es key i e at same rises j k d less within =
    let here = at.at d in
    grind (arith, common_steps, rises j k d, rises j i d, rises i k d, at.within)

pub rises_inserted : (es : List Entry) (key i : ℕ) (e : Entry) → Absent es key i → e.key ≡ key → Rises es → Rises (insert es i e)
rises_inserted es key i e at same rises j k d less within =
    let new = insert es i e in
    let longer = length-insert es i e at.within in
    let below : (j : ℕ) → j < i → (get_or new j d).key ≡ (get_or es j d).key = λ j l. ap (λ x. x.key) (get_or-insert_below es i e d j l at.within) in
    let here : (j : ℕ) → j ≡ i → (get_or new j d).key ≡ e.key = λ j l. rw l (ap (λ x. x.key) (get_or-insert_at es i e d at.within)) in
    let above : (j : ℕ) → i < j → (get_or new j d).key ≡ (get_or es (j - 1) d).key = λ j l. subst (λ q. (get_or new q d).key ≡ (get_or es (j - 1) d).key) {x = j - 1 + 1} (omega arith) (ap (λ x. x.key) (get_or-insert_above es i e d (j - 1) (omega arith) at.within)) in
    grind (arith, below j, here j, above j, below k, here k, above k, rises j k d, rises j (k - 1) d, rises (j - 1) (k - 1) d, at.before j d, at.behind (k - 1) d)

pub rises_removed : (es : List Entry) (i : ℕ) → i < length es → Rises es → Rises (remove es i)
rises_removed es i l rises j k d less within =
    let new = remove es i in
    let shorter = length-remove es i l in
    let below : (j : ℕ) → j < i → (get_or new j d).key ≡ (get_or es j d).key = λ j h. ap (λ x. x.key) (get_or-remove_below es i d j h l) in
    let above : (j : ℕ) → i ≤ j → (get_or new j d).key ≡ (get_or es (j + 1) d).key = λ j h. ap (λ x. x.key) (get_or-remove_above es i d j h l) in
    grind (arith, below j, above j, below k, above k, rises j k d, rises j (k + 1) d, rises (j + 1) (k + 1) d)
