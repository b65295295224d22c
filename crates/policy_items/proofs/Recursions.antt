-- The steps of the recursions. Assumes nothing.
use Rattle.std.proofs.Common.{◌≡◌, ℕ, zero, suc, ◌+◌, ◌-◌, ◌<◌, ◌≤◌, Bool, true, false, cond, ◌||◌, eqb, ltb, List, [], ◌∷◌, ◌++◌, map, length, drop, sym, refl, ap, ◌∙◌, ⊎_elim, arith}
use Rattle.std.proofs.lemmas.Grind.{common_steps}
use Rattle.policy.specs.declared.Clause.{Clause}
use Rattle.policy_clauses.proofs.Recursions.{limit}
use Rattle.policy_clauses.specs.Meant.{written_of}
use Rattle.prefix.specs.declared.Prefix.{Prefix as StoredPrefix}
use Rattle.policy_clauses.specs.Reading.{Reading, Stop, Written, clause, next}
use Rattle.policy_clauses.specs.declared.Awaited.TheVariants as awaited
use Rattle.prefix.specs.Meant.{meant}
use Rattle.prefix.specs.Prefix.{Prefix}
use Rattle.std.proofs.lemmas.List.{drop-append-le, length_push, map_push}
use Rattle.std.proofs.lemmas.Bool.{cases_lt, cond-true, cond-false, lt-ltb, le-ltb}
use Rattle.std.proofs.lemmas.Bool.Decides.{nat_tests}
use Rattle.text_tokens.specs.Tokens.{Source, Ended, More, Token}
use Rattle.policy_items.specs.Items.{clauses, comma, listed, prefix, prefixes, started, start_of}

more_prefixes : (k : ℕ) (before : List Prefix) (s : Source) → prefixes k before s ≡ next (prefix s) (λ p rest. listed (comma rest) (before ++ (p ∷ [])) rest (λ at rest₂. cond (eqb k 0) (Stop at awaited.ListEnd) (prefixes (k - 1) (before ++ (p ∷ [])) rest₂)))
unfolding prefixes
more_prefixes zero before s = refl
more_prefixes (suc k) before s =
    let less : suc k - 1 ≡ k = omega arith in
    let some : eqb (suc k) 0 ≡ false = grind (arith, nat_tests) in
    let step : Bool → ℕ → Reading (List Prefix) = λ b j. next (prefix s) (λ p rest. listed (comma rest) (before ++ (p ∷ [])) rest (λ at rest₂. cond b (Stop at awaited.ListEnd) (prefixes j (before ++ (p ∷ [])) rest₂))) in
    ap (step false) (sym less) ∙ ap (λ b. step b (suc k - 1)) (sym some)

-- the prefixes go on until there are 64
pub prefixes_step : (before : List Prefix) (s : Source) → length before ≤ 63 → prefixes (63 - length before) before s ≡ next (prefix s) (λ p rest. listed (comma rest) (before ++ (p ∷ [])) rest (λ at rest₂. cond (ltb (length (before ++ (p ∷ []))) 64) (prefixes (63 - length (before ++ (p ∷ []))) (before ++ (p ∷ [])) rest₂) (Stop at awaited.ListEnd)))
prefixes_step before s h =
    let onward : (p : Prefix) (at : ℕ) (r : Source) → cond (eqb (63 - length before) 0) (Stop at awaited.ListEnd) (prefixes (63 - length before - 1) (before ++ (p ∷ [])) r) ≡ cond (ltb (length (before ++ (p ∷ []))) 64) (prefixes (63 - length (before ++ (p ∷ []))) (before ++ (p ∷ [])) r) (Stop at awaited.ListEnd) =
    λ p at r.
    limit 63 (length before) (Stop at awaited.ListEnd) (λ k. prefixes k (before ++ (p ∷ [])) r) h
    ∙ ap (λ m. cond (ltb m 64) (prefixes (63 - m) (before ++ (p ∷ [])) r) (Stop at awaited.ListEnd)) (sym (length_push before p)) in
    more_prefixes (63 - length before) before s
    ∙ (λ i. next (prefix s) (λ p rest. listed (comma rest) (before ++ (p ∷ [])) rest (λ at rest₂. onward p at rest₂ i)))

-- one prefix more
pub listed_more : (l : List StoredPrefix) (p : StoredPrefix) → map meant (l ++ (p ∷ [])) ≡ map meant l ++ (meant p ∷ [])
listed_more l p = map_push meant l p

room : {R : Type 0} (stop : R) (more : ℕ → R) (most n : ℕ) → cond (eqb (most - n) 0) stop (more (most - n - 1)) ≡ cond (ltb n most) (more (most - (n + 1))) stop
room stop more most n = ⊎_elim below full (cases_lt n most)
  where
    below : n < most → cond (eqb (most - n) 0) stop (more (most - n - 1)) ≡ cond (ltb n most) (more (most - (n + 1))) stop
    below l =
        let some : eqb (most - n) 0 ≡ false = grind (arith, nat_tests) in
        let same : most - n - 1 ≡ most - (n + 1) = omega arith in
        cond-false (eqb (most - n) 0) _ _ some ∙ ap more same ∙ sym (cond-true (ltb n most) _ _ (lt-ltb n most l))

    full : most ≤ n → cond (eqb (most - n) 0) stop (more (most - n - 1)) ≡ cond (ltb n most) (more (most - (n + 1))) stop
    full l =
        let none : eqb (most - n) 0 ≡ true = grind (arith, nat_tests) in
        cond-true (eqb (most - n) 0) _ _ none ∙ sym (cond-false (ltb n most) _ _ (le-ltb n most l))

pub no_more : (k : ℕ) (names : List (List ℕ)) (first : Bool) (before : List Written) (at : ℕ) → clauses k names first before (Ended at) ≡ Stop at awaited.Clause
unfolding clauses
no_more zero names first before at = refl
no_more (suc k) names first before at = refl

more_clauses : (k : ℕ) (names : List (List ℕ)) (first : Bool) (before : List Written) (t : Token) (rest : Source) → clauses k names first before (More t rest) ≡ started (start_of t.kind) (first || t.fresh) t.at before rest (cond (eqb k 0) (Stop t.at awaited.Close) (next (clause names rest) (λ c rest₂. clauses (k - 1) names false (before ++ (c ∷ [])) rest₂)))
unfolding clauses
more_clauses zero names first before t rest = refl
more_clauses (suc k) names first before t rest =
    let less : suc k - 1 ≡ k = omega arith in
    let some : eqb (suc k) 0 ≡ false = grind (arith, nat_tests) in
    let step : Bool → ℕ → Reading (List Written) = λ b j. started (start_of t.kind) (first || t.fresh) t.at before rest (cond b (Stop t.at awaited.Close) (next (clause names rest) (λ c rest₂. clauses j names false (before ++ (c ∷ [])) rest₂))) in
    ap (step false) (sym less) ∙ ap (λ b. step b (suc k - 1)) (sym some)

-- the clauses go on until there are so many
pub clauses_step : (most n : ℕ) (names : List (List ℕ)) (first : Bool) (before : List Written) (t : Token) (rest : Source) → clauses (most - n) names first before (More t rest) ≡ started (start_of t.kind) (first || t.fresh) t.at before rest (cond (ltb n most) (next (clause names rest) (λ c rest₂. clauses (most - (n + 1)) names false (before ++ (c ∷ [])) rest₂)) (Stop t.at awaited.Close))
clauses_step most n names first before t rest =
    more_clauses (most - n) names first before t rest
    ∙ ap (started (start_of t.kind) (first || t.fresh) t.at before rest) (room (Stop t.at awaited.Close) (λ k. next (clause names rest) (λ c rest₂. clauses k names false (before ++ (c ∷ [])) rest₂)) most n)

-- one clause more at the end of a pool
pub behind : (n : ℕ) (cs : List Clause) (c : Clause) → n ≤ length cs → map written_of (drop n (cs ++ (c ∷ []))) ≡ map written_of (drop n cs) ++ (written_of c ∷ [])
behind n cs c h = ap (map written_of) (drop-append-le n cs (c ∷ []) h) ∙ map_push written_of (drop n cs) c

pub ruleset listing = (prefixes_step, listed_more, length_push, common_steps)

pub ruleset pooling = (clauses_step, no_more, behind, common_steps)
