-- One beat of a session, and courses put together. Assumes nothing.
use Rattle.std.proofs.Common.{◌≡◌, ℕ, ◌+◌, ◌<◌, ◌≤◌, Bool, true, false, cond, leb, List, [], ◌∷◌, ◌++◌, sym, refl, ap, ◌∙◌, arith}
use Rattle.std.proofs.lemmas.Bool.{true≢false, cond-true, cond-false, le-leb, lt-leb}
use Rattle.session.specs.declared.Phase.{Phase}
use Rattle.session.specs.declared.Phase.TheVariants.{Down, OpenSent, Established}
use Rattle.session.specs.Session.{Session, down, is_down, is_down_in, later, hold_time, keepalive_time}
use Rattle.session.specs.Clocks.{Beat, Tick, Hears, Sends, after, after_beat, after_tick}

abbrev pub at : Phase → ℕ → ℕ → Session
at p h n = record { phase = p; heard = h; sent = n }

-- what was sent, a tick later, on an established session that stays up
abbrev pub sent_later : ℕ → ℕ
sent_later n = cond (leb keepalive_time (later n)) 0 (later n)

in_time : (h : ℕ) → h + 1 < hold_time → leb hold_time (later h) ≡ false
in_time h lt = lt-leb hold_time (later h) (omega arith)

out_of_time : (h : ℕ) → hold_time ≤ h + 1 → leb hold_time (later h) ≡ true
out_of_time h le = le-leb hold_time (later h) (omega arith)

counts : (h : ℕ) → h < hold_time → later h ≡ h + 1
counts h lt = omega arith

one_of : (b : Bool) (p : Phase) (h m n : ℕ) → cond b (at p h m) (at p h n) ≡ at p h (cond b m n)
one_of true p h m n = refl
one_of false p h m n = refl

pub established_tick : (h n : ℕ) → h + 1 < hold_time → after_tick (at Established h n) ≡ at Established (h + 1) (sent_later n)
established_tick h n lt =
    cond-false (leb hold_time (later h)) down (cond (leb keepalive_time (later n)) (at Established (later h) 0) (at Established (later h) (later n))) (in_time h lt)
    ∙ (one_of (leb keepalive_time (later n)) Established (later h) 0 (later n) ∙ ap (λ k. at Established k (sent_later n)) (counts h (omega arith)))

open_tick : (h n : ℕ) → h + 1 < hold_time → after_tick (at OpenSent h n) ≡ at OpenSent (h + 1) (later n)
open_tick h n lt =
    cond-false (leb hold_time (later h)) down (at OpenSent (later h) (later n)) (in_time h lt) ∙ ap (λ k. at OpenSent k (later n)) (counts h (omega arith))

-- a tick before the 90th
pub up_tick : (p : Phase) (h n : ℕ) → is_down_in p ≡ false → h + 1 < hold_time → (m : ℕ) × (after_tick (at p h n) ≡ at p (h + 1) m)
up_tick Down h n d lt = absurd (true≢false d)
up_tick OpenSent h n d lt = (later n, open_tick h n lt)
up_tick Established h n d lt = (sent_later n, established_tick h n lt)

-- the 90th
pub last_tick : (p : Phase) (h n : ℕ) → is_down_in p ≡ false → hold_time ≤ h + 1 → after_tick (at p h n) ≡ down
last_tick Down h n d le = absurd (true≢false d)
last_tick OpenSent h n d le = cond-true (leb hold_time (later h)) down (at OpenSent (later h) (later n)) (out_of_time h le)
last_tick Established h n d le =
    cond-true (leb hold_time (later h)) down (cond (leb keepalive_time (later n)) (at Established (later h) 0) (at Established (later h) (later n))) (out_of_time h le)

pub down_rests : (bs : List Beat) → after down bs ≡ down
unfolding after
down_rests [] = refl
down_rests (Tick ∷ bs) = down_rests bs
down_rests (Hears ∷ bs) = down_rests bs
down_rests (Sends ∷ bs) = down_rests bs

down_stays : (h n : ℕ) (bs : List Beat) → is_down (after (at Down h n) bs) ≡ true
unfolding after
down_stays h n [] = refl
down_stays h n (Tick ∷ bs) = down_stays h n bs
down_stays h n (Hears ∷ bs) = down_stays 0 n bs
down_stays h n (Sends ∷ bs) = down_stays h 0 bs

in_phase : (p : Phase) (h n : ℕ) (bs : List Beat) → is_down_in p ≡ true → is_down (after (at p h n) bs) ≡ true
in_phase Down h n bs d = down_stays h n bs
in_phase OpenSent h n bs d = absurd (true≢false (sym d))
in_phase Established h n bs d = absurd (true≢false (sym d))

pub stays_down : (s : Session) (bs : List Beat) → is_down s ≡ true → is_down (after s bs) ≡ true
stays_down s bs d = in_phase s.phase s.heard s.sent bs d

pub after_append : (s : Session) (cs bs : List Beat) → after s (cs ++ bs) ≡ after (after s cs) bs
unfolding after
after_append s [] bs = refl
after_append s (b ∷ cs) bs = after_append (after_beat s b) cs bs
