-- The steps of scanning. Assumes nothing.
use Rattle.std.proofs.Common.{◌≡◌, ℕ, zero, suc, ◌+◌, ◌-◌, ◌<◌, ◌≤◌, Bool, false, List, [], ◌∷◌, ◌++◌, length, get_or, take, drop, sym, refl, ap, ◌∙◌, ⊎_elim, arith, length-drop}
use Rattle.std.proofs.lemmas.List.{at_drop_more, at_drop_all, take_more, get_or-drop}
use Rattle.std.proofs.lemmas.Bool.{cases_lt}
use Rattle.text_tokens.specs.declared.Class.{Class}
use Rattle.text_tokens.specs.declared.Class.TheVariants.{Blank, LineEnd, Hash, Sign, Letter}
use Rattle.text_tokens.specs.Tokens.{Source, Mode, Between, InWord, Run, class_of, after, whole, worded, ended, scan}

pub scan_none : (m : Mode) (n : ℕ) (text : List ℕ) → length text ≤ n → scan m n (drop n text) ≡ ended m n
unfolding scan
scan_none m n text h = at_drop_all (scan m n) text n h

pub scan_more : (m : Mode) (n : ℕ) (text : List ℕ) → n < length text → scan m n (drop n text) ≡ whole m n (class_of (get_or text n 0)) (scan (after m n (get_or text n 0) (class_of (get_or text n 0))) (n + 1) (drop (n + 1) text))
unfolding scan
scan_more m n text h = at_drop_more (scan m n) text n 0 h

-- a byte of the class c that is no letter ends a word
stop : (s n b : ℕ) (f : Bool) (w : List ℕ) (c : Class) (rest : Mode → Source) → (c ≡ Letter → ⊥) → whole (InWord s f w) n c (rest (after (InWord s f w) n b c)) ≡ worded s f w (whole (Between false) n c (rest (after (Between false) n b c)))
stop s n b f w Blank rest h = refl
stop s n b f w LineEnd rest h = refl
stop s n b f w Hash rest h = refl
stop s n b f w (Sign x) rest h = refl
stop s n b f w Letter rest h = absurd (h refl)

module _ (text : List ℕ) (start end : ℕ) (fresh : Bool) (run : Run text start end) where
  bytes : ℕ → List ℕ
  bytes k = take (k - start) (drop start text)

  letter : (k : ℕ) → start ≤ k → k < end → bytes k ++ (get_or text k 0 ∷ []) ≡ bytes (k + 1)
  unfolding bytes
  letter k h l =
      let one : k + 1 - start ≡ k - start + 1 = omega arith in
      let back : start + (k - start) ≡ k = omega arith in
      sym (ap (λ i. take i (drop start text)) one ∙ take_more (drop start text) (k - start) 0 (omega (arith, length-drop start text, run.within)) ∙ ap (λ x. take (k - start) (drop start text) ++ (x ∷ [])) (get_or-drop start text (k - start) 0 ∙ ap (λ i. get_or text i 0) back))

  at_end_lem : scan (InWord start fresh (bytes end)) end (drop end text) ≡ worded start fresh (bytes end) (scan (Between false) end (drop end text))
  at_end_lem =
      ⊎_elim
      (λ h. scan_more (InWord start fresh (bytes end)) end text h ∙ stop start end (get_or text end 0) fresh (bytes end) (class_of (get_or text end 0)) (λ m. scan m (end + 1) (drop (end + 1) text)) (run.stops h) ∙ ap (worded start fresh (bytes end)) (sym (scan_more (Between false) end text h)))
      (λ h. scan_none (InWord start fresh (bytes end)) end text h ∙ ap (worded start fresh (bytes end)) (sym (scan_none (Between false) end text h)))
      (cases_lt end (length text))

  goes : (d k : ℕ) → k + d ≡ end → start < k → scan (InWord start fresh (bytes k)) k (drop k text) ≡ worded start fresh (bytes end) (scan (Between false) end (drop end text))
  goes zero k e s = let same : k ≡ end = omega arith in ap (λ i. scan (InWord start fresh (bytes i)) i (drop i text)) same ∙ at_end_lem
  goes (suc d) k e s =
      let within : k < length text = omega (arith, run.within) in
      let before : k < end = omega arith in
      let m : Mode = InWord start fresh (bytes k) in
      scan_more m k text within
      ∙ ap (λ c. whole m k c (scan (after m k (get_or text k 0) c) (k + 1) (drop (k + 1) text))) (run.all k (omega arith) before)
      ∙ ap (λ w. scan (InWord start fresh w) (k + 1) (drop (k + 1) text)) (letter k (omega arith) before)
      ∙ goes d (k + 1) (omega arith) (omega arith)

  word : scan (Between fresh) start (drop start text) ≡ worded start fresh (take (end - start) (drop start text)) (scan (Between false) end (drop end text))
  unfolding bytes
  word =
      let within : start < length text = omega (arith, run.within, run.some) in
      let m : Mode = Between fresh in
      let none_yet : start - start ≡ 0 = omega arith in
      scan_more m start text within
      ∙ ap (λ c. whole m start c (scan (after m start (get_or text start 0) c) (start + 1) (drop (start + 1) text))) (run.all start (omega arith) run.some)
      ∙ ap (λ w. scan (InWord start fresh w) (start + 1) (drop (start + 1) text)) (ap (λ i. take i (drop start text) ++ (get_or text start 0 ∷ [])) (sym none_yet) ∙ letter start (omega arith) run.some)
      ∙ goes (end - (start + 1)) (start + 1) (omega (arith, run.some)) (omega arith)

-- a word is one token
pub scan_word : (text : List ℕ) (start end : ℕ) (fresh : Bool) → Run text start end → scan (Between fresh) start (drop start text) ≡ worded start fresh (take (end - start) (drop start text)) (scan (Between false) end (drop end text))
scan_word text start end fresh run = word text start end fresh run

pub ruleset scanning = (scan_more, scan_none, scan_word)
