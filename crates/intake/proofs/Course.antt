-- One turn continues the course of an input. Assumes nothing.
use Rattle.std.proofs.Common.{◌≡◌, ℕ, zero, suc, ◌-◌, ◌<◌, ◌≤◌, cond, ltb, List, [], ◌∷◌, ◌++◌, length, drop, Some, None, Option, sym, refl, ap, ◌∙◌, subst, ⊎_elim, arith}
use Rattle.std.proofs.lemmas.List.{length-append, length-drop, drop-append-le, drop_all, drop-drop, drop_at}
use Rattle.std.proofs.lemmas.Bool.{cases_lt, cond-true, cond-false, lt-ltb, le-ltb}
use Rattle.std.proofs.lemmas.Bool.Decides.{nat_tests}
use Rattle.frame.specs.Frame.{Outcome, whole, refused, more, unreadable}
use Rattle.frame.specs.Settings.{Exchange}
use Rattle.frame.specs.Size.{largest}
use Rattle.frame.specs.declared.event.Defect.{Defect}
use Rattle.frame.specs.declared.event.Refusal.{Refusal}
use Rattle.intake.specs.Course.{course_by, course, course_of, behind, ahead_by, Continues, Laws}
use Rattle.intake.specs.State.{Entry, passed_over, reads, force_after, pass_over, by_outcome, by_passing}
use Rattle.intake.specs.declared.turns.Passing.{Passing}
use Rattle.intake.proofs.Readings.{ways}

-- a course is told by what the shorter rests lead to
agree : (f g : Option Exchange → List ℕ → List Entry) (s : Option Exchange) (xs : List ℕ) (o : Outcome Entry) → reads s xs ≡ o
    → ((u : Option Exchange) (zs : List ℕ) → length zs < length xs → f u zs ≡ g u zs) → course_by f s xs o ≡ course_by g s xs o
agree f g s xs (whole e k) q same =
    let w = (ways s).within xs e k q in
    ap (λ es. e ∷ es) (same (force_after s e) (drop k xs) (simp length-drop (omega arith)))
agree f g s xs (refused r k) q same =
    let w = (ways s).onward xs r k q in
    ⊎_elim (λ l. cond-true _ _ _ (lt-ltb (length xs) k l) ∙ sym (cond-true _ _ _ (lt-ltb (length xs) k l)))
    (λ (l : k ≤ length xs). ap (λ es. cond (ltb (length xs) k) [] (passed_over r ∷ es)) (same s (drop k xs) (simp length-drop (omega arith))))
    (cases_lt (length xs) k)
agree f g s xs more q same = refl
agree f g s xs (unreadable d) q same = refl

course_none : (n : ℕ) (s : Option Exchange) → course n s [] ≡ []
unfolding course
course_none zero s = refl
course_none (suc n) s = ap (course_by (course n) s []) (ways s).none

-- any number of frames that is not less than the bytes will do
enough : (n m : ℕ) (s : Option Exchange) (xs : List ℕ) → length xs ≤ n → length xs ≤ m → course n s xs ≡ course m s xs
unfolding course
enough zero zero s xs h l = refl
enough zero (suc m) s [] h l = sym (course_none (suc m) s)
enough zero (suc m) s (x ∷ xs) h l = absurd (omega arith)
enough (suc n) zero s [] h l = course_none (suc n) s
enough (suc n) zero s (x ∷ xs) h l = absurd (omega arith)
enough (suc n) (suc m) s xs h l = agree (course n) (course m) s xs (reads s xs) refl (λ u zs z. enough n m u zs (omega arith) (omega arith))

-- a course is what its first frame leads to, and then the course of the rest
course_step : (s : Option Exchange) (xs : List ℕ) → course_of s xs ≡ course_by course_of s xs (reads s xs)
unfolding course
course_step s xs =
    enough (length xs) (suc (length xs)) s xs (omega arith) (omega arith)
    ∙ agree (course (length xs)) course_of s xs (reads s xs) refl (λ u zs z. enough (length xs) (length zs) u zs (omega arith) (omega arith))

course_at : (s : Option Exchange) (xs : List ℕ) (o : Outcome Entry) → reads s xs ≡ o → course_of s xs ≡ course_by course_of s xs o
course_at s xs o q = course_step s xs ∙ ap (course_by course_of s xs) q

-- what xs decide, they decide whatever bytes come behind
course_still : (s : Option Exchange) (xs : List ℕ) (o : Outcome Entry) → reads s xs ≡ o → (o ≡ more → ⊥) → (ys : List ℕ) → course_of s (xs ++ ys) ≡ course_by course_of s (xs ++ ys) o
course_still s xs o q decided ys = course_at s (xs ++ ys) o ((ways s).settled xs ys (λ m. decided (sym q ∙ m)) ∙ q)

whole_decides : {e : Entry} {n : ℕ} → whole e n ≡ more → ⊥
whole_decides m = let z : ◌≡◌ {A = ℕ} 0 1 = cc in omega arith

refused_decides : {r : Refusal} {n : ℕ} → ◌≡◌ {A = Outcome Entry} (refused r n) more → ⊥
refused_decides m = let z : ◌≡◌ {A = ℕ} 0 1 = cc in omega arith

unreadable_decides : {d : Defect} → ◌≡◌ {A = Outcome Entry} (unreadable d) more → ⊥
unreadable_decides m = let z : ◌≡◌ {A = ℕ} 0 1 = cc in omega arith

came : {e : Entry} → Some e ≡ None → ⊥
came m = let z : ◌≡◌ {A = ℕ} 0 1 = cc in omega arith

-- a frame that is being passed over, and its first bytes
behind_cut : (s : Option Exchange) (r : Refusal) (left : ℕ) (xs ys : List ℕ) → length xs < left → behind s r left (xs ++ ys) ≡ behind s r (left - length xs) ys
behind_cut s r left xs ys l =
    let rest : drop left (xs ++ ys) ≡ drop (left - length xs) ys =
    ap (λ n. drop n (xs ++ ys)) (omega arith) ∙ sym (drop-drop (left - length xs) (length xs) (xs ++ ys)) ∙ ap (drop (left - length xs)) (drop_at xs ys (length xs) refl) in
    let long = length-append xs ys in
    let test : ltb (length (xs ++ ys)) left ≡ ltb (length ys) (left - length xs) = grind (arith, nat_tests) in
    (λ i. cond (test i) [] (passed_over r ∷ course_of s (rest i)))

pass_short : (s : Option Exchange) (r : Refusal) (left : ℕ) (xs : List ℕ) → length xs < left → Continues (behind s r left) xs (pass_over s r left xs)
pass_short s r left xs l =
    let all = drop_all (length xs) xs (omega arith) in
    subst (Continues (behind s r left) xs) (sym (cond-true _ _ _ (lt-ltb (length xs) left l)))
    record {
      goes_on = λ ys. behind_cut s r left xs ys l ∙ ap (λ zs. behind s r (left - length xs) (zs ++ ys)) (sym all);
      prompt = λ _. cond-true _ _ _ (lt-ltb (length xs) left l);
      within = omega arith;
      kept = λ _. omega (arith, ap length all);
    }

pass_whole : (s : Option Exchange) (r : Refusal) (left : ℕ) (xs : List ℕ) → left ≤ length xs → Continues (behind s r left) xs (pass_over s r left xs)
pass_whole s r left xs l =
    subst (Continues (behind s r left) xs) (sym (cond-false _ _ _ (le-ltb (length xs) left l)))
    record {
      goes_on = λ ys. cond-false _ _ _ (le-ltb (length (xs ++ ys)) left (simp length-append (omega arith))) ∙ ap (λ zs. passed_over r ∷ course_of s zs) (drop-append-le left xs ys l);
      prompt = λ m. absurd (came m);
      within = l;
      kept = λ m. absurd (came m);
    }

passes : (s : Option Exchange) (r : Refusal) (left : ℕ) (xs : List ℕ) → Continues (behind s r left) xs (pass_over s r left xs)
passes s r left xs = ⊎_elim (pass_short s r left xs) (pass_whole s r left xs) (cases_lt (length xs) left)

-- a turn on bytes that begin with o
continues : (s : Option Exchange) (xs : List ℕ) (o : Outcome Entry) → reads s xs ≡ o → Continues (course_of s) xs (by_outcome s xs o)
continues s xs (whole e n) q =
    let w = (ways s).within xs e n q in
    record {
      goes_on = λ ys. course_still s xs _ q whole_decides ys ∙ ap (λ zs. e ∷ course_of (force_after s e) zs) (drop-append-le n xs ys w.1) ∙ sym ((ways s).goes_on xs e n _ q);
      prompt = λ m. absurd (came m);
      within = w.1;
      kept = λ m. absurd (came m);
    }
continues s xs (refused r n) q =
    let p = passes s r n xs in
    record {
      goes_on = λ ys. course_still s xs _ q refused_decides ys ∙ p.goes_on ys;
      prompt = λ m. course_at s xs _ q ∙ p.prompt m;
      within = p.within;
      kept = p.kept;
    }
continues s xs more q = record {
  goes_on = λ ys. refl;
  prompt = λ _. course_at s xs more q;
  within = omega arith;
  kept = λ _. ⊎_elim (λ l. l) (λ l. absurd ((ways s).bounded xs l q)) (cases_lt (length xs) largest);
}
continues s xs (unreadable d) q = record {
  goes_on = λ ys. course_still s xs _ q unreadable_decides ys;
  prompt = λ m. absurd (came m);
  within = omega arith;
  kept = λ m. absurd (came m);
}

laws_by : (s : Option Exchange) (xs : List ℕ) (p : Option Passing) → Continues (λ zs. ahead_by s zs p) xs (by_passing s xs p)
laws_by s xs None = continues s xs (reads s xs) refl
laws_by s xs (Some p) = passes s p.refusal p.left xs

pub laws : Laws
laws st xs = laws_by st.settings xs st.passing
