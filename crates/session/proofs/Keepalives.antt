-- That an established session always sends in time. Assumes nothing.
use Rattle.std.proofs.Common.{◌≡◌, ℕ, ◌+◌, ◌<◌, ◌≤◌, true, false, not, ◌&&◌, eqb, leb, ◌⊎◌, List, [], ◌∷◌, ◌++◌, sym, refl, ap, ◌∙◌, subst, inl, inr, ⊎_elim, arith}
use Rattle.std.proofs.lemmas.Bool.{true≢false, cond-true, cond-false, le-leb, lt-leb, eq-eqb, ne_eqb, cases_lt}
use Rattle.session.specs.declared.Phase.{Phase}
use Rattle.session.specs.declared.Phase.TheVariants.{Down, OpenSent, Established}
use Rattle.session.specs.Session.{Session, down, is_down, is_established, is_established_in, later, hold_time, keepalive_time}
use Rattle.session.specs.Clocks.{Beat, Tick, Hears, Sends, after, after_beat, after_tick, sends_keepalive, ticks, sends_nothing, KeepaliveWithin}
use Rattle.session.proofs.Beats.{at, established_tick, last_tick, down_rests, stays_down, after_append}

-- what a tick does to an established session: it goes down, a KEEPALIVE goes, or its clock goes on
data Ticked (h n : ℕ) : Type 0 where
  goes_down : after_tick (at Established h n) ≡ down → Ticked h n
  keeps : keepalive_time ≤ n + 1 → sends_keepalive (at Established h n) ≡ true → after_tick (at Established h n) ≡ at Established (h + 1) 0 → Ticked h n
  goes_on : n + 1 < keepalive_time → sends_keepalive (at Established h n) ≡ false → after_tick (at Established h n) ≡ at Established (h + 1) (n + 1) → Ticked h n

due : (h n : ℕ) → h + 1 < hold_time → sends_keepalive (at Established h n) ≡ leb keepalive_time (later n)
due h n lt = ap (λ b. not b && leb keepalive_time (later n)) (lt-leb hold_time (later h) (omega arith))

by_sent : (h n : ℕ) → h + 1 < hold_time → (n + 1 < keepalive_time) ⊎ (keepalive_time ≤ n + 1) → Ticked h n
by_sent h n lt (inl before) =
    let b = lt-leb keepalive_time (later n) (omega arith) in
    let count : later n ≡ n + 1 = omega arith in
    goes_on before (due h n lt ∙ b) (established_tick h n lt ∙ ap (λ k. at Established (h + 1) k) (cond-false (leb keepalive_time (later n)) 0 (later n) b ∙ count))
by_sent h n lt (inr past) =
    let b = le-leb keepalive_time (later n) (omega arith) in
    keeps past (due h n lt ∙ b) (established_tick h n lt ∙ ap (λ k. at Established (h + 1) k) (cond-true (leb keepalive_time (later n)) 0 (later n) b))

by_heard : (h n : ℕ) → (h + 1 < hold_time) ⊎ (hold_time ≤ h + 1) → Ticked h n
by_heard h n (inl lt) = by_sent h n lt (cases_lt (n + 1) keepalive_time)
by_heard h n (inr le) = goes_down (last_tick Established h n refl le)

tick : (h n : ℕ) → Ticked h n
tick h n = by_heard h n (cases_lt (h + 1) hold_time)

-- after any course an established session is down, or has sent lately
Lately : Session → Type 0
Lately s = (s ≡ down) ⊎ ((h : ℕ) × (m : ℕ) × (m < keepalive_time) × (s ≡ at Established h m))

from : (s t : Session) (bs : List Beat) → s ≡ t → Lately (after t bs) → Lately (after s bs)
from s t bs e l = subst (λ (x : Session). Lately (after x bs)) (sym e) l

lately : (h n : ℕ) (bs : List Beat) → n < keepalive_time → Lately (after (at Established h n) bs)
unfolding after Lately
lately h n [] lt = inr (h, n, lt, refl)
lately h n (Tick ∷ bs) lt =
    elim (tick h n) [
      | goes_down e ↦ inl (ap (λ s. after s bs) e ∙ down_rests bs)
      | keeps le k e ↦ from (after_tick (at Established h n)) (at Established (h + 1) 0) bs e (lately (h + 1) 0 bs (omega arith))
      | goes_on lt k e ↦ from (after_tick (at Established h n)) (at Established (h + 1) (n + 1)) bs e (lately (h + 1) (n + 1) bs lt)
    ]
lately h n (Hears ∷ bs) lt = lately 0 n bs lt
lately h n (Sends ∷ bs) lt = lately h 0 bs (omega arith)

lately_of : (s : Session) (bs : List Beat) (p : Phase) → p ≡ s.phase → is_established_in p ≡ true → s.sent < keepalive_time → Lately (after s bs)
lately_of s bs Down e up lt = absurd (true≢false (sym up))
lately_of s bs OpenSent e up lt = absurd (true≢false (sym up))
lately_of s bs Established e up lt =
    subst (λ (p : Phase). Lately (after (at p s.heard s.sent) bs)) e (lately s.heard s.sent bs lt)

pub sent_lately : (s : Session) (bs : List Beat) → is_established s ≡ true → s.sent < keepalive_time → (after s bs).sent < keepalive_time
unfolding Lately
sent_lately s bs up lt =
    ⊎_elim
    (λ e. let z : (after s bs).sent ≡ 0 = ap (λ (x : Session). x.sent) e in omega arith)
    (λ w. let z : (after s bs).sent ≡ w.1 = ap (λ (x : Session). x.sent) w.3 in let m = w.2 in omega arith)
    (lately_of s bs s.phase refl up lt)

-- a KEEPALIVE later in the course, with one beat more before it
later_one : (s : Session) (b : Beat) (bs : List Beat) → KeepaliveWithin (after_beat s b) bs → KeepaliveWithin s (b ∷ bs)
unfolding after
later_one s b bs k = record { before = b ∷ k.before; behind = k.behind; at_a_tick = ap (λ l. b ∷ l) k.at_a_tick; goes = k.goes }

moved : (s t : Session) (bs : List Beat) → s ≡ t → KeepaliveWithin t bs → KeepaliveWithin s bs
moved s t bs e k = subst (λ (x : Session). KeepaliveWithin x bs) (sym e) k

up_still : (s t : Session) (bs : List Beat) → s ≡ t → is_down (after s bs) ≡ false → is_down (after t bs) ≡ false
up_still s t bs e up = ap (λ x. is_down (after x bs)) (sym e) ∙ up

never : {A : Type 0} (s : Session) (bs : List Beat) → s ≡ down → is_down (after s bs) ≡ false → A
never s bs e up = absurd (true≢false (sym (ap is_down (ap (λ x. after x bs) e ∙ down_rests bs)) ∙ up))

within : (h n : ℕ) (bs : List Beat) → n < keepalive_time → sends_nothing bs ≡ true → keepalive_time ≤ n + ticks bs → is_down (after (at Established h n) bs) ≡ false → KeepaliveWithin (at Established h n) bs
unfolding after ticks sends_nothing
within h n [] lt q le up = absurd (omega arith)
within h n (Tick ∷ bs) lt q le up =
    elim (tick h n) [
      | goes_down e ↦ never (after_tick (at Established h n)) bs e up
      | keeps past k e ↦ record { before = []; behind = bs; at_a_tick = refl; goes = k }
      | goes_on below k e ↦
          later_one (at Established h n) Tick bs
          (moved (after_tick (at Established h n)) (at Established (h + 1) (n + 1)) bs e
          (within (h + 1) (n + 1) bs below q (omega arith) (up_still (after_tick (at Established h n)) (at Established (h + 1) (n + 1)) bs e up)))
    ]
within h n (Hears ∷ bs) lt q le up = later_one (at Established h n) Hears bs (within 0 n bs lt q le up)
within h n (Sends ∷ bs) lt q le up = absurd (true≢false (sym q))

pub keepalive : (s : Session) (before bs : List Beat) → is_established s ≡ true → s.sent < keepalive_time → sends_nothing bs ≡ true → keepalive_time ≤ ticks bs → is_down (after s (before ++ bs)) ≡ false → KeepaliveWithin (after s before) bs
unfolding Lately
keepalive s before bs up lt q le still =
    let still = sym (ap is_down (after_append s before bs)) ∙ still in
    ⊎_elim
    (λ e. never (after s before) bs e still)
    (λ w. moved (after s before) (at Established w.0 w.1) bs w.3
    (within w.0 w.1 bs w.2 q (omega arith) (up_still (after s before) (at Established w.0 w.1) bs w.3 still)))
    (lately_of s before s.phase refl up lt)

-- before the 30th tick the clock shows the ticks since something was sent
Counted : ℕ → Session → Type 0
Counted n s = (is_down s ≡ true) ⊎ ((h : ℕ) × (s ≡ at Established h n))

counted_from : (n : ℕ) (s t : Session) (bs : List Beat) → s ≡ t → Counted n (after t bs) → Counted n (after s bs)
counted_from n s t bs e l = subst (λ (x : Session). Counted n (after x bs)) (sym e) l

counted : (h n : ℕ) (bs : List Beat) → sends_nothing bs ≡ true → n + ticks bs < keepalive_time → Counted (n + ticks bs) (after (at Established h n) bs)
unfolding after ticks sends_nothing Counted
counted h n [] q lt = inr (h, ap (λ k. at Established h k) (omega arith))
counted h n (Tick ∷ bs) q lt =
    elim (tick h n) [
      | goes_down e ↦ inl (ap is_down (ap (λ x. after x bs) e ∙ down_rests bs))
      | keeps past k e ↦ absurd (omega arith)
      | goes_on below k e ↦
          let same : (n + 1) + ticks bs ≡ n + (1 + ticks bs) = omega arith in
          counted_from (n + (1 + ticks bs)) (after_tick (at Established h n)) (at Established (h + 1) (n + 1)) bs e
          (subst (λ (k : ℕ). Counted k (after (at Established (h + 1) (n + 1)) bs)) same (counted (h + 1) (n + 1) bs q (omega arith)))
    ]
counted h n (Hears ∷ bs) q lt = counted 0 n bs q lt
counted h n (Sends ∷ bs) q lt = absurd (true≢false (sym q))

counted_of : (s : Session) (bs : List Beat) (p : Phase) → p ≡ s.phase → is_established_in p ≡ true → s.sent ≡ 0 → sends_nothing bs ≡ true → ticks bs < keepalive_time → Counted (s.sent + ticks bs) (after s bs)
counted_of s bs Down e up z q lt = absurd (true≢false (sym up))
counted_of s bs OpenSent e up z q lt = absurd (true≢false (sym up))
counted_of s bs Established e up z q lt =
    subst (λ (p : Phase). Counted (s.sent + ticks bs) (after (at p s.heard s.sent) bs)) e (counted s.heard s.sent bs q (omega arith))

at_last : (h n : ℕ) → n < keepalive_time → is_down (after (at Established h n) (Tick ∷ [])) ≡ false → sends_keepalive (at Established h n) ≡ eqb (n + 1) keepalive_time
unfolding after
at_last h n lt up =
    elim (tick h n) [
      | goes_down e ↦ never (after_tick (at Established h n)) [] e up
      | keeps past k e ↦ k ∙ sym (eq-eqb (n + 1) keepalive_time (omega arith))
      | goes_on below k e ↦ k ∙ sym (ne_eqb (n + 1) keepalive_time (λ same. omega arith))
    ]

pub on_time : (s : Session) (bs : List Beat) → is_established s ≡ true → s.sent ≡ 0 → sends_nothing bs ≡ true → ticks bs < keepalive_time → is_down (after s (bs ++ (Tick ∷ []))) ≡ false → sends_keepalive (after s bs) ≡ eqb (ticks bs + 1) keepalive_time
unfolding Counted
on_time s bs up z q lt still =
    let still = sym (ap is_down (after_append s bs (Tick ∷ []))) ∙ still in
    ⊎_elim
    (λ d. absurd (true≢false (sym (stays_down (after s bs) (Tick ∷ []) d) ∙ still)))
    (λ w. ap sends_keepalive w.1
    ∙ (at_last w.0 (s.sent + ticks bs) (omega arith) (up_still (after s bs) (at Established w.0 (s.sent + ticks bs)) (Tick ∷ []) w.1 still)
    ∙ ap (λ k. eqb k keepalive_time) (omega arith)))
    (counted_of s bs s.phase refl up z q lt)
