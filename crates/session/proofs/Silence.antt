-- What keeps a session up, and what silence does. Assumes nothing.
use Rattle.std.proofs.Common.{◌≡◌, ℕ, ◌+◌, ◌<◌, ◌≤◌, true, false, List, [], ◌∷◌, ◌++◌, sym, refl, ap, ◌∙◌, ⊎_elim, arith}
use Rattle.std.proofs.lemmas.Bool.{true≢false, cases_lt}
use Rattle.session.specs.declared.Phase.{Phase}
use Rattle.session.specs.Session.{Session, down, is_down, is_down_in, hold_time}
use Rattle.session.specs.Clocks.{Beat, Tick, Hears, Sends, after, ticks, hears_nothing, HearsInTime}
use Rattle.session.proofs.Beats.{at, up_tick, last_tick, down_rests}

-- from here on, with h seconds of silence behind it, nothing is silent for too long
Ahead : ℕ → List Beat → Type 0
Ahead h bs = (part behind : List Beat) → part ++ behind ≡ bs → hears_nothing part ≡ true → h + ticks part < hold_time

kept : (p : Phase) (h n : ℕ) (bs : List Beat) → is_down_in p ≡ false → Ahead h bs → HearsInTime bs → (after (at p h n) bs).phase ≡ p
unfolding after ticks hears_nothing Ahead
kept p h n [] d a t = refl
kept p h n (Tick ∷ bs) d a t =
    let one = a (Tick ∷ []) bs refl refl in
    let lt : h + 1 < hold_time = omega arith in
    let e = up_tick p h n d lt in
    ap (λ s. (after s bs).phase) e.1
    ∙ kept p (h + 1) e.0 bs d
    (λ part behind is quiet. let more = a (Tick ∷ part) behind (ap (λ l. Tick ∷ l) is) quiet in omega arith)
    (record { in_time = λ before part behind is quiet. t.in_time (Tick ∷ before) part behind (ap (λ l. Tick ∷ l) is) quiet })
kept p h n (Hears ∷ bs) d a t =
    kept p 0 n bs d
    (λ part behind is quiet. let more = t.in_time (Hears ∷ []) part behind (ap (λ l. Hears ∷ l) is) quiet in omega arith)
    (record { in_time = λ before part behind is quiet. t.in_time (Hears ∷ before) part behind (ap (λ l. Hears ∷ l) is) quiet })
kept p h n (Sends ∷ bs) d a t =
    kept p h 0 bs d
    (λ part behind is quiet. a (Sends ∷ part) behind (ap (λ l. Sends ∷ l) is) quiet)
    (record { in_time = λ before part behind is quiet. t.in_time (Sends ∷ before) part behind (ap (λ l. Sends ∷ l) is) quiet })

pub kept_up : (s : Session) (bs : List Beat) → is_down s ≡ false → s.heard ≡ 0 → HearsInTime bs → (after s bs).phase ≡ s.phase
unfolding Ahead
kept_up s bs d z t =
    kept s.phase s.heard s.sent bs d (λ part behind is quiet. let lt = t.in_time [] part behind is quiet in omega arith) t

quiet_up : (p : Phase) (h n : ℕ) (bs : List Beat) → is_down_in p ≡ false → hears_nothing bs ≡ true → h + ticks bs < hold_time → (after (at p h n) bs).phase ≡ p
unfolding after ticks hears_nothing
quiet_up p h n [] d q lt = refl
quiet_up p h n (Tick ∷ bs) d q lt =
    let e = up_tick p h n d (omega arith) in ap (λ s. (after s bs).phase) e.1 ∙ quiet_up p (h + 1) e.0 bs d q (omega arith)
quiet_up p h n (Hears ∷ bs) d q lt = absurd (true≢false (sym q))
quiet_up p h n (Sends ∷ bs) d q lt = quiet_up p h 0 bs d q lt

pub up_before : (s : Session) (bs : List Beat) → is_down s ≡ false → s.heard ≡ 0 → hears_nothing bs ≡ true → ticks bs < hold_time → (after s bs).phase ≡ s.phase
up_before s bs d z q lt = quiet_up s.phase s.heard s.sent bs d q (omega arith)

quiet_down : (p : Phase) (h n : ℕ) (bs : List Beat) → is_down_in p ≡ false → h < hold_time → hears_nothing bs ≡ true → hold_time ≤ h + ticks bs → after (at p h n) bs ≡ down
unfolding after ticks hears_nothing
quiet_down p h n [] d lt q le = absurd (omega arith)
quiet_down p h n (Tick ∷ bs) d lt q le =
    ⊎_elim
    (λ below. let e = up_tick p h n d below in ap (λ s. after s bs) e.1 ∙ quiet_down p (h + 1) e.0 bs d below q (omega arith))
    (λ above. ap (λ s. after s bs) (last_tick p h n d above) ∙ down_rests bs)
    (cases_lt (h + 1) hold_time)
quiet_down p h n (Hears ∷ bs) d lt q le = absurd (true≢false (sym q))
quiet_down p h n (Sends ∷ bs) d lt q le = quiet_down p h 0 bs d lt q le

pub silence : (s : Session) (bs : List Beat) → is_down s ≡ false → s.heard ≡ 0 → hears_nothing bs ≡ true → hold_time ≤ ticks bs → after s bs ≡ down
silence s bs d z q le = quiet_down s.phase s.heard s.sent bs d (omega arith) q (omega arith)
