-- The laws of reading frames. Assumes nothing.
use Rattle.std.proofs.Common.{◌≡◌, ℕ, ◌<◌, ◌≤◌, Bool, true, false, cond, eqb, ltb, ◌⊎◌, List, ◌++◌, length, get_or, take, drop, sym, refl, ap, ◌∙◌, subst, inl, inr, ⊎_elim, arith}
use Rattle.std.proofs.lemmas.List.{length-append, length-take, length-take-le, get_or_append_left, take-append-le, take-append-drop, take-take}
use Rattle.frame.specs.Frame.{Outcome, Happening, up, down, whole, refused, more, unreadable, outcome, before_settings, under_settings, of_peer}
use Rattle.frame.specs.Laws.{taken, Lawful, Laws}
use Rattle.frame.specs.Settings.{Exchange, settings_at}
use Rattle.frame.specs.Size.{kind_of, Begins, framed, largest, begins}
use Rattle.frame.specs.declared.event.Refusal.{Refusal}
use Rattle.frame.specs.declared.event.Refusal.TheVariants.{NoSettings, TooManyPeers, TextTooLong}
use Rattle.frame.specs.declared.event.Defect.TheVariants.{UnknownPeer, UnknownState}
use Rattle.frame.specs.declared.kind.Kind.{Kind}
use Rattle.frame.specs.declared.kind.Kind.TheVariants.{Message, Session, Tick, PolicyText, Settings}
use Rattle.frame.proofs.Begins.{Head, is_partial, is_unknown, is_long, is_frame, view, begins_unknown, begins_long, begins_frame, head_append, head_take}
use Rattle.frame.proofs.Sizes.{size_some}

-- a frame of n bytes is taken whole, passed over whole, or cannot be read
abbrev Says : {X : Type 0} → Outcome X → ℕ → Type 0
Says (whole x m) n = m ≡ n
Says (refused r m) n = m ≡ n
Says more n = ⊥
Says (unreadable d) n = Unit {0}

-- a frame of t bytes is taken or passed over
abbrev Sizes : {X : Type 0} → Outcome X → ℕ → Type 0
Sizes (whole x m) t = m ≡ t
Sizes (refused r m) t = m ≡ t
Sizes more t = ⊥
Sizes (unreadable d) t = ⊥

module _ {X : Type 0} where
  same_size : (o : Outcome X) (n t : ℕ) → Says o n → Sizes o t → n ≡ t
  same_size (whole x m) n t s h = sym s ∙ h
  same_size (refused r m) n t s h = sym s ∙ h
  same_size more n t s h = absurd s
  same_size (unreadable d) n t s h = absurd h

  taken_sizes : (o : Outcome X) → 1 ≤ taken o → Sizes o (taken o)
  taken_sizes (whole x m) h = refl
  taken_sizes (refused r m) h = refl
  taken_sizes more h = omega arith
  taken_sizes (unreadable d) h = omega arith

  says_cond : (b : Bool) (o p : Outcome X) (n : ℕ) → Says o n → Says p n → Says (cond b o p) n
  says_cond true o p n s t = s
  says_cond false o p n s t = t

  -- something is decided, or more is needed
  is_more : (o : Outcome X) → (o ≡ more) ⊎ (o ≡ more → ⊥)
  is_more (whole x n) = inr (λ e. let z : ◌≡◌ {A = ℕ} 0 1 = cc in omega arith)
  is_more (refused r n) = inr (λ e. let z : ◌≡◌ {A = ℕ} 0 1 = cc in omega arith)
  is_more more = inl refl
  is_more (unreadable d) = inr (λ e. let z : ◌≡◌ {A = ℕ} 0 1 = cc in omega arith)

module _ {X : Type 0} (look : Kind → List ℕ → Outcome X) (long : Refusal) (says : (k : Kind) (frame : List ℕ) → Says (look k frame) (length frame)) where
  abbrev reads : List ℕ → Outcome X
  reads xs = outcome look long (begins xs)

  -- what the bytes begin with says as much
  of : {a b : Begins} → a ≡ b → outcome look long a ≡ outcome look long b
  of e = ap (outcome look long) e

  settled : (xs ys : List ℕ) → (reads xs ≡ more → ⊥) → reads (xs ++ ys) ≡ reads xs
  settled xs ys decided = ap (outcome look long) (elim (view xs) [
    | is_partial e l ↦ absurd (decided (of e))
    | is_unknown s e ↦ begins_unknown (xs ++ ys) (simp length-append (omega arith)) (ap kind_of (get_or_append_left xs ys 0 0 (omega arith)) ∙ e) ∙ sym (begins_unknown xs s e)
    | is_long k n h l ↦ begins_long (xs ++ ys) k n (head_append xs ys k n h) l ∙ sym (begins_long xs k n h l)
    | is_frame k n h l w ↦ begins_frame (xs ++ ys) k n (head_append xs ys k n h) l (simp length-append (omega arith)) ∙ ap (framed k) (take-append-le n xs ys w) ∙ sym (begins_frame xs k n h l w)
  ])

  -- a frame that is taken or passed over: its size, and what its own bytes begin with
  record Cut (xs : List ℕ) (t : ℕ) : Type 0 where
    some : 1 ≤ t
    alone : t ≤ length xs → begins (take t xs) ≡ begins xs
    there : (x : X) → reads xs ≡ whole x t → t ≤ length xs

  cut_long : (xs : List ℕ) (k : Kind) (n : ℕ) → Head xs k n → largest < n → Cut xs n
  cut_long xs k n h l =
      let is = begins_long xs k n h l in
      record {
        some = omega arith;
        alone = λ w. begins_long (take n xs) k n (head_take xs k n h w) l ∙ sym is;
        there = λ x e. let o = of is in let z : ◌≡◌ {A = ℕ} 0 1 = cc in absurd (omega arith);
      }

  cut_frame : (xs : List ℕ) (k : Kind) (n : ℕ) → Head xs k n → n ≤ largest → n ≤ length xs → Cut xs n
  cut_frame xs k n h l w =
      let long = length-take-le n xs w in
      record {
        some = size_some k xs n h.size;
        alone = λ _. begins_frame (take n xs) k n (head_take xs k n h w) l (omega arith) ∙ ap (framed k) (take-take n n xs (omega arith)) ∙ sym (begins_frame xs k n h l w);
        there = λ _ _. w;
      }

  cut : (xs : List ℕ) (t : ℕ) → Sizes (reads xs) t → Cut xs t
  cut xs t sizes = elim (view xs) [
    | is_partial e l ↦ absurd (at (of e))
    | is_unknown s e ↦ absurd (at (of (begins_unknown xs s e)))
    | is_long k n h l ↦ subst (Cut xs) (at (of (begins_long xs k n h l))) (cut_long xs k n h l)
    | is_frame k n h l w ↦ subst (Cut xs) (sym (length-take-le n xs w) ∙ same_size _ _ t (says k (take n xs)) (at (of (begins_frame xs k n h l w)))) (cut_frame xs k n h l w)
  ]
    where
      at : {o : Outcome X} → reads xs ≡ o → Sizes o t
      at e = subst (λ o. Sizes o t) e sizes

  within : (xs : List ℕ) (x : X) (n : ℕ) → reads xs ≡ whole x n → (1 ≤ n) × (n ≤ length xs)
  within xs x n e = let c = cut xs n (subst (λ o. Sizes o n) (sym e) refl) in (c.some, c.there x e)

  onward : (xs : List ℕ) (r : Refusal) (n : ℕ) → reads xs ≡ refused r n → 1 ≤ n
  onward xs r n e = (cut xs n (subst (λ o. Sizes o n) (sym e) refl)).some

  bounded : (xs : List ℕ) → largest ≤ length xs → reads xs ≡ more → ⊥
  bounded xs many e = elim (view xs) [
    | is_partial _ l ↦ omega arith
    | is_unknown s u ↦ let o = of (begins_unknown xs s u) in let z : ◌≡◌ {A = ℕ} 0 1 = cc in omega arith
    | is_long k n h l ↦ let o = of (begins_long xs k n h l) in let z : ◌≡◌ {A = ℕ} 0 1 = cc in omega arith
    | is_frame k n h l w ↦ subst (λ o. Says o (length (take n xs))) (sym (of (begins_frame xs k n h l w)) ∙ e) (says k (take n xs))
  ]

  needed : (xs : List ℕ) (x : X) (n k : ℕ) → reads xs ≡ whole x n → k < n → reads (take k xs) ≡ more
  needed xs x n k e l = ⊎_elim (λ h. h)
      (λ decided.
      let whole-too : reads (take k xs) ≡ whole x n = sym (settled (take k xs) (drop k xs) decided) ∙ ap reads (take-append-drop k xs) ∙ e in
      absurd (omega (arith, within (take k xs) x n whole-too, length-take k xs)))
      (is_more (reads (take k xs)))

  lawful : Lawful reads
  lawful = record {
    settled = settled;
    own = λ xs some w. of ((cut xs _ (taken_sizes (reads xs) some)).alone w);
    needed = needed;
    within = within;
    onward = onward;
    bounded = bounded;
  }

says_before : (k : Kind) (frame : List ℕ) → Says (before_settings k frame) (length frame)
says_before Message frame = refl
says_before Session frame = says_cond (eqb (get_or frame 2 0) 0) _ _ _ refl (says_cond (eqb (get_or frame 2 0) 1) (refused NoSettings (length frame)) (unreadable UnknownState) _ refl tt)
says_before Tick frame = refl
says_before PolicyText frame = refl
says_before Settings frame = says_cond (ltb 64 (get_or frame 1 0)) (refused TooManyPeers (length frame)) (whole (settings_at frame) (length frame)) _ refl refl

module _ (x : Exchange) where
  says_peer : (frame : List ℕ) (h : Happening) → Says (of_peer x frame h) (length frame)
  says_peer frame h = says_cond (ltb (get_or frame 1 0) (length x.peers)) (whole h (length frame)) (unreadable UnknownPeer) _ refl tt

  says_under : (k : Kind) (frame : List ℕ) → Says (under_settings x k frame) (length frame)
  says_under Message frame = says_peer frame _
  says_under Session frame =
      says_cond (eqb (get_or frame 2 0) 0) (of_peer x frame (down (get_or frame 1 0))) _ _ (says_peer frame _)
      (says_cond (eqb (get_or frame 2 0) 1) (of_peer x frame (up (get_or frame 1 0))) (unreadable UnknownState) _ (says_peer frame _) tt)
  says_under Tick frame = refl
  says_under PolicyText frame = refl
  says_under Settings frame = refl

pub laws : Laws
laws = (lawful before_settings NoSettings says_before, λ x. lawful (under_settings x) TextTooLong (says_under x))
