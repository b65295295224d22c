-- The steps of the recursions. Assumes nothing.
use Rattle.std.proofs.Common.{◌≡◌, ℕ, zero, suc, ◌+◌, ◌-◌, ◌<◌, ◌≤◌, Bool, true, false, cond, not, eqb, ltb, List, [], ◌∷◌, ◌++◌, length, sym, refl, ap, ◌∙◌, ⊎_elim, arith}
use Rattle.std.proofs.lemmas.Grind.{common_steps}
use Rattle.std.proofs.lemmas.List.{length_push}
use Rattle.std.proofs.lemmas.Bool.{cases_lt, cond-true, cond-false}
use Rattle.std.proofs.lemmas.Bool.Decides.{nat_tests}
use Rattle.policy.specs.declared.Part.{Part}
use Rattle.policy_words.specs.Words.{is_ascii, test_word, joint_word}
use Rattle.text_tokens.specs.Tokens.{Source, Ended, More, Kind, Word, Sign}
use Rattle.policy_clauses.specs.declared.Awaited.{Awaited}
use Rattle.policy_clauses.specs.declared.Awaited.TheVariants as awaited
use Rattle.policy_clauses.specs.Reading.{Reading, Got, Stop, joined, next, on_word, part, part_at, parts, word}
use Rattle.policy_clauses.specs.Sizes.{size}

-- what is done with a word is done with the word that was read
onward : {A : Type 0} (a : Awaited) (at : ℕ) (fresh : Bool) (k : Kind) (rest : Source) (f : ℕ → List ℕ → Source → Reading A) → on_word a (record { at = at; fresh = fresh; kind = k }) (λ w. f at w rest) ≡ next {A = ℕ × List ℕ} (on_word a (record { at = at; fresh = fresh; kind = k }) (λ w. Got (at, w) rest)) (λ w rest₂. f w.0 w.1 rest₂)
onward a at true k rest f = refl
onward a at false (Sign s) rest f = refl
onward a at false (Word w) rest f = chosen (is_ascii w)
  where
    chosen : (b : Bool) → cond b (f at w rest) (Stop at a) ≡ next {A = ℕ × List ℕ} (cond b (Got (at, w) rest) (Stop at a)) (λ v rest₂. f v.0 v.1 rest₂)
    chosen true = refl
    chosen false = refl

pub part_more : (names : List (List ℕ)) (negated : Bool) (s : Source) → part names negated s ≡ next (word awaited.Test s) (λ w rest. part_at names negated w.0 (test_word w.1) rest (part names (not negated) rest))
unfolding part
part_more names negated (Ended at) = refl
part_more names negated (More t rest) = onward awaited.Test t.at t.fresh t.kind rest (λ at w rest₂. part_at names negated at (test_word w) rest₂ (part names (not negated) rest₂))

parts_more : (k : ℕ) (names : List (List ℕ)) (before : List Part) (s : Source) → parts k names before s ≡ next (part names false s) (λ p rest. next (word awaited.AndOrThen rest) (λ w rest₂. joined w.0 (joint_word w.1) (before ++ (p ∷ [])) rest₂ (cond (eqb k 0) (Stop w.0 awaited.Then) (parts (k - 1) names (before ++ (p ∷ [])) rest₂))))
unfolding parts
parts_more zero names before s = refl
parts_more (suc k) names before s =
    let less : suc k - 1 ≡ k = omega arith in
    let some : eqb (suc k) 0 ≡ false = grind (arith, nat_tests) in
    let step : Bool → ℕ → Reading (List Part) = λ b j. next (part names false s) (λ p rest. next (word awaited.AndOrThen rest) (λ w rest₂. joined w.0 (joint_word w.1) (before ++ (p ∷ [])) rest₂ (cond b (Stop w.0 awaited.Then) (parts j names (before ++ (p ∷ [])) rest₂)))) in
    ap (step false) (sym less) ∙ ap (λ b. step b (suc k - 1)) (sym some)

-- counting down to 0 what may come is counting up to the limit what came
pub limit : {R : Type 0} (top n : ℕ) (stop : R) (more : ℕ → R) → n ≤ top → cond (eqb (top - n) 0) stop (more (top - n - 1)) ≡ cond (ltb (n + 1) (top + 1)) (more (top - (n + 1))) stop
limit top n stop more h = ⊎_elim below full (cases_lt n top)
  where
    below : n < top → cond (eqb (top - n) 0) stop (more (top - n - 1)) ≡ cond (ltb (n + 1) (top + 1)) (more (top - (n + 1))) stop
    below l =
        let some : eqb (top - n) 0 ≡ false = grind (arith, nat_tests) in
        let room : ltb (n + 1) (top + 1) ≡ true = grind (arith, nat_tests) in
        let same : top - n - 1 ≡ top - (n + 1) = omega arith in
        cond-false (eqb (top - n) 0) _ _ some ∙ ap more same ∙ sym (cond-true (ltb (n + 1) (top + 1)) _ _ room)

    full : top ≤ n → cond (eqb (top - n) 0) stop (more (top - n - 1)) ≡ cond (ltb (n + 1) (top + 1)) (more (top - (n + 1))) stop
    full l =
        let none : eqb (top - n) 0 ≡ true = grind (arith, nat_tests) in
        let no_room : ltb (n + 1) (top + 1) ≡ false = grind (arith, nat_tests) in
        cond-true (eqb (top - n) 0) _ _ none ∙ sym (cond-false (ltb (n + 1) (top + 1)) _ _ no_room)

-- the parts go on until there are 16
pub parts_step : (names : List (List ℕ)) (before : List Part) (s : Source) → length before ≤ 15 → parts (15 - length before) names before s ≡ next (part names false s) (λ p rest. next (word awaited.AndOrThen rest) (λ w rest₂. joined w.0 (joint_word w.1) (before ++ (p ∷ [])) rest₂ (cond (ltb (length (before ++ (p ∷ []))) 16) (parts (15 - length (before ++ (p ∷ []))) names (before ++ (p ∷ [])) rest₂) (Stop w.0 awaited.Then))))
parts_step names before s h =
    let onward : (p : Part) (w : ℕ × List ℕ) (r : Source) → cond (eqb (15 - length before) 0) (Stop w.0 awaited.Then) (parts (15 - length before - 1) names (before ++ (p ∷ [])) r) ≡ cond (ltb (length (before ++ (p ∷ []))) 16) (parts (15 - length (before ++ (p ∷ []))) names (before ++ (p ∷ [])) r) (Stop w.0 awaited.Then) =
    λ p w r.
    limit 15 (length before) (Stop w.0 awaited.Then) (λ k. parts k names (before ++ (p ∷ [])) r) h
    ∙ ap (λ m. cond (ltb m 16) (parts (15 - m) names (before ++ (p ∷ [])) r) (Stop w.0 awaited.Then)) (sym (length_push before p)) in
    parts_more (15 - length before) names before s
    ∙ (λ i. next (part names false s) (λ p rest. next (word awaited.AndOrThen rest) (λ w rest₂. joined w.0 (joint_word w.1) (before ++ (p ∷ [])) rest₂ (onward p w rest₂ i))))

same_rest : (b : Bool) (a : Awaited) (at : ℕ) (v w : ℕ × List ℕ) (s rest : Source) → cond b (Got v s) (Stop at a) ≡ Got w rest → s ≡ rest
same_rest true a at v w s rest e = cc
same_rest false a at v w s rest e = let z : ◌≡◌ {A = ℕ} 0 1 = cc in absurd (omega arith)

of_token : (a : Awaited) (at : ℕ) (fresh : Bool) (k : Kind) (s rest : Source) (w : ℕ × List ℕ) → on_word {A = ℕ × List ℕ} a (record { at = at; fresh = fresh; kind = k }) (λ v. Got (at, v) s) ≡ Got w rest → s ≡ rest
of_token a at true k s rest w e = let z : ◌≡◌ {A = ℕ} 0 1 = cc in absurd (omega arith)
of_token a at false (Sign x) s rest w e = let z : ◌≡◌ {A = ℕ} 0 1 = cc in absurd (omega arith)
of_token a at false (Word v) s rest w e = same_rest (is_ascii v) a at (at, v) w s rest e

pub fewer : (a : Awaited) (s rest : Source) (w : ℕ × List ℕ) → word a s ≡ Got w rest → size rest < size s
unfolding size
fewer a (Ended at) rest w e = let z : ◌≡◌ {A = ℕ} 0 1 = cc in absurd (omega arith)
fewer a (More t s) rest w e = let same = ap size (of_token a t.at t.fresh t.kind s rest w e) in omega arith

pub ruleset parting = (parts_step, length_push, common_steps)
