-- Rows of sessions. Assumes nothing.
use Rattle.std.proofs.Common.{◌≡◌, ℕ, ◌+◌, ◌<◌, ◌≤◌, Bool, false, cond, ◌&&◌, eqb, ltb, List, length, get_or, slice_index_or, set, replicate, sym, refl, ap, ◌∙◌, ⊎_elim, arith}
use lib.ListN.{length-replicate}
use Rattle.model.specs.Model.{at}
use Rattle.session.specs.Meant.{session_of}
use Rattle.session.specs.Session.{Session, down, ticked, sent_now, is_silent}
use Rattle.session.specs.declared.Phase.TheVariants.{Down}
use Rattle.session.specs.declared.Session.{Session as Stored}
use Rattle.sessions.specs.declared.Sessions.{Sessions}
use Rattle.sessions.specs.Sessions.{Changes, sessions_of, session_at, silent_in, sessions_later, sent_to}
use Rattle.std.proofs.lemmas.List.{get_or_past, get_or-replicate, get_or-set_same, get_or-set_other, get_or_read}
use Rattle.std.proofs.lemmas.Bool.{cases_lt, cases_eq, eq-eqb, ne_eqb, lt-ltb, le-ltb, cond-true, cond-false, cond_both}
use Rattle.std.proofs.lemmas.Bool.Decides.{nat_tests}

abbrev stored : Stored
stored = record { phase = Down; heard = 0; sent = 0 }

-- the sessions of a row, one by one
pub filled : (n i : ℕ) (s : Stored) → session_of s ≡ down → session_at (replicate n s) i ≡ down
unfolding session_at
filled n i s e = ⊎_elim
    (λ h. ap session_of (get_or-replicate n i s stored h) ∙ e)
    (λ h. ap session_of (get_or_past (replicate n s) i stored (omega (arith, length-replicate n s))))
    (cases_lt i n)

pub here : (row : List Stored) (k : ℕ) (s : Stored) → k < length row → s ≡ slice_index_or row k s → session_of s ≡ session_at row k
unfolding session_at
here row k s h e = ap session_of (get_or_read row k s h e stored)

pub written : (row : List Stored) (k i : ℕ) (s : Stored) → k < length row → session_at (set row k s) i ≡ cond (eqb i k) (session_of s) (session_at row i)
unfolding session_at
written row k i s h = ⊎_elim
    (λ same. ap (λ j. session_of (get_or (set row k s) j stored)) same ∙ ap session_of (get_or-set_same row k s stored h) ∙ sym (cond-true (eqb i k) (session_of s) (session_of (get_or row i stored)) (eq-eqb i k same)))
    (λ other. ap session_of (get_or-set_other row k i s stored other) ∙ sym (cond-false (eqb i k) (session_of s) (session_of (get_or row i stored)) (ne_eqb i k other)))
    (cases_eq i k)

pub outside : (row : List Stored) (i : ℕ) → length row ≤ i → session_at row i ≡ down
unfolding session_at
outside row i h = ap session_of (get_or_past row i stored h)

-- what is down stays down
pub later_down : (f : ℕ → Session) (i : ℕ) → f i ≡ down → sessions_later f i ≡ down
unfolding silent_in sessions_later
later_down f i e = ap (λ s. cond (is_silent (ticked s)) down (ticked s)) e

-- below a number all are as they should be, and the others as they were
abbrev pub Below : (f g h : ℕ → Session) → ℕ → Type 0
Below f g h k = (i : ℕ) → h i ≡ cond (ltb i k) (g i) (f i)

-- one more is as it should be
pub one_more : (f g h after : ℕ → Session) (k : ℕ) (v : Session) → Below f g h k → v ≡ g k → ((i : ℕ) → after i ≡ cond (eqb i k) v (h i)) → Below f g after (k + 1)
one_more f g h after k v before new now i =
    ⊎_elim
    (λ here. now i ∙ cond-true (eqb i k) v (h i) (eq-eqb i k here) ∙ new ∙ ap g (sym here) ∙ sym (cond-true (ltb i (k + 1)) (g i) (f i) (lt-ltb i (k + 1) (omega arith))))
    (λ other. now i ∙ cond-false (eqb i k) v (h i) (ne_eqb i k other) ∙ before i ∙ ap (λ b. cond b (g i) (f i)) (below i k other))
    (cases_eq i k)
  where
    below : (i k : ℕ) → (i ≡ k → ⊥) → ltb i k ≡ ltb i (k + 1)
    below i k other = ⊎_elim
        (λ l. lt-ltb i k l ∙ sym (lt-ltb i (k + 1) (omega arith)))
        (λ l. ⊎_elim (λ l2. absurd (other (omega arith))) (λ l2. le-ltb i k l ∙ sym (le-ltb i (k + 1) l2)) (cases_lt i (k + 1)))
        (cases_lt i k)

-- the one that is next is still as it was
pub untouched : (f g h : ℕ → Session) (k : ℕ) → Below f g h k → h k ≡ f k
untouched f g h k before = before k ∙ cond-false (ltb k k) (g k) (f k) (le-ltb k k (omega arith))

-- all are as they should be
pub all_are : (f g h : ℕ → Session) (n : ℕ) → ((i : ℕ) → n ≤ i → f i ≡ g i) → Below f g h n → (i : ℕ) → h i ≡ g i
all_are f g h n past before i =
    ⊎_elim
    (λ l. before i ∙ cond-true (ltb i n) (g i) (f i) (lt-ltb i n l))
    (λ l. before i ∙ cond-false (ltb i n) (g i) (f i) (le-ltb i n l) ∙ past i l)
    (cases_lt i n)

-- what is down is as it was when something is sent
pub stays_sent : (set : ℕ → Bool) (f : ℕ → Session) (i : ℕ) → f i ≡ down → f i ≡ sent_to set f i
unfolding sent_to
stays_sent set f i gone = cond_both (set i) (sent_now (f i)) (f i) (λ s. f i ≡ s) (λ t. gone ∙ ap sent_now (sym gone)) (λ t. refl)

-- one more is asked whether it is silent
pub one_more_silent : (silent set after : ℕ → Bool) (k : ℕ) (b : Bool) → ((i : ℕ) → set i ≡ (ltb i k && (ltb i 64 && silent i))) → b ≡ silent k → ((i : ℕ) → after i ≡ cond (eqb i k) (cond (ltb k 64) b false) (set i)) → (i : ℕ) → after i ≡ (ltb i (k + 1) && (ltb i 64 && silent i))
one_more_silent silent set after k b before new now i =
    let a = before i in
    let e = now i in
    ⊎_elim
    (λ here.
    let same = ap silent here in
    grind (arith, nat_tests))
    (λ other. grind (arith, nat_tests))
    (cases_eq i k)

pub all_silent : (silent set : ℕ → Bool) (n : ℕ) → 64 ≤ n → ((i : ℕ) → set i ≡ (ltb i n && (ltb i 64 && silent i))) → (i : ℕ) → set i ≡ (ltb i 64 && silent i)
all_silent silent set n many before i = let a = before i in grind (arith, nat_tests)

-- one more has been told of what was sent, if it is one of those
pub sent_more : (set : ℕ → Bool) (f h after : ℕ → Session) (k : ℕ) (v : Session) → Below f (sent_to set f) h k → v ≡ cond (set k) (sent_now (h k)) (h k) → ((i : ℕ) → after i ≡ cond (eqb i k) v (h i)) → Below f (sent_to set f) after (k + 1)
unfolding sent_to
sent_more set f h after k v before new = one_more f (sent_to set f) h after k v before (new ∙ ap (λ s. cond (set k) (sent_now s) s) (untouched f (sent_to set f) h k before))

-- for one more a second has passed
pub passed_more : (f h after : ℕ → Session) (k : ℕ) (v : Session) → Below f (sessions_later f) h k → v ≡ cond (is_silent (ticked (h k))) down (ticked (h k)) → ((i : ℕ) → after i ≡ cond (eqb i k) v (h i)) → Below f (sessions_later f) after (k + 1)
unfolding sessions_later silent_in
passed_more f h after k v before new = one_more f (sessions_later f) h after k v before (new ∙ ap (λ s. cond (is_silent (ticked s)) down (ticked s)) (untouched f (sessions_later f) h k before))

-- a session that became what a call made of it, where all that the call can make of one is known
pub changed : {F : Type 0} {post : F → Stored → Stored → Type 0} {step : F} {peer : ℕ} {s t : Sessions} (f : Session → Session) → ((before after : Stored) → post step before after → session_of after ≡ f (session_of before)) → Changes post step peer s t → (i : ℕ) → sessions_of t i ≡ at peer (f (sessions_of s peer)) (sessions_of s) i
changed {F} {post} {step} {peer} {s} f makes c i = c.is i ∙ ap (λ v. at peer v (sessions_of s) i) (makes c.before c.after c.called ∙ ap f c.was)
