-- Each limit is exact. Assumes nothing.
use Rattle.std.proofs.Common.{◌≡◌, ℕ, zero, suc, ◌+◌, ◌≤◌, Bool, true, false, ◌||◌, ◌⊎◌, List, [], ◌∷◌, ◌++◌, length, Some, None, Option, sym, refl, ap, ◌∙◌, inl, inr, ⊎_elim, arith}
use Rattle.policy.specs.declared.Part.{Part}
use Rattle.policy_clauses.specs.Reading.{Reading, Got, Stop, Written, clause, condition, joined, next, part, parts, word}
use Rattle.policy_clauses.specs.declared.Awaited.{Awaited}
use Rattle.policy_clauses.specs.declared.Awaited.TheVariants as awaited
use Rattle.policy_items.specs.Items.{clauses, comma, listed, prefix, prefixes, start_of, started}
use Rattle.policy_items.specs.declared.signs.Start.{Start}
use Rattle.policy_items.specs.declared.signs.Start.TheVariants as a_start
use Rattle.policy_words.specs.Words.{joint_word}
use Rattle.policy_words.specs.declared.JointWord.{JointWord}
use Rattle.policy_words.specs.declared.JointWord.TheVariants as joint
use Rattle.prefix.specs.Prefix.{Prefix}
use Rattle.std.proofs.lemmas.List.{length_push}
use Rattle.text_tokens.specs.Tokens.{Source, Ended, More}
use Rattle.policy_items.specs.Limits.{Exact, LimitLaws}

-- how reading goes on behind one more element
abbrev Onward : Type 0 → Type 0
Onward A = List A → ℕ → Source → Reading (List A)

-- one step of reading, whatever follows: it ends with e elements more than the n before, or goes on with one more
abbrev Uniform : (A : Type 0) → ℕ → ℕ → (Onward A → Reading (List A)) → Type 0
Uniform A e n step =
    (more other : Onward A) (xs : List A) (rest : Source) → step more ≡ Got xs rest
    → ((step other ≡ Got xs rest) × (length xs ≡ n + e))
    ⊎ ((before : List A) × ((at : ℕ) × ((r : Source) × ((length before ≡ n + 1) × ((more before at r ≡ Got xs rest) × (step other ≡ other before at r))))))

no_got : {A B : Type 0} {x : A} {rest : Source} {at : ℕ} {a : Awaited} → ◌≡◌ {A = Reading A} (Stop at a) (Got x rest) → B
no_got e = let z : ◌≡◌ {A = ℕ} 0 1 = cc in absurd (omega arith)

module _ {A : Type 0} (e : ℕ) (a : Awaited) (step : List A → Source → Onward A → Reading (List A)) (read : ℕ → List A → Source → Reading (List A))
    (last : (b : List A) (s : Source) → read zero b s ≡ step b s (λ _ at _. Stop at a))
    (more : (k : ℕ) (b : List A) (s : Source) → read (suc k) b s ≡ step b s (λ c at r. read k c r))
    (uniform : (b : List A) (s : Source) → Uniform A e (length b) (step b s)) where
  onward : ℕ → Onward A
  onward zero = λ _ at _. Stop at a
  onward (suc k) = λ c at r. read k c r

  steps : (k : ℕ) (b : List A) (s : Source) → read k b s ≡ step b s (onward k)
  unfolding onward
  steps zero b s = last b s
  steps (suc k) b s = more k b s

  longer : (n : ℕ) (b : List A) (s : Source) (xs : List A) (rest : Source) → read n b s ≡ Got xs rest → length b + e ≤ length xs
  unfolding onward
  longer zero b s xs rest h =
      ⊎_elim (λ p. omega (arith, p.1)) (λ p. no_got p.1.1.1.1.0) (uniform b s (onward zero) (onward zero) xs rest (sym (steps zero b s) ∙ h))
  longer (suc n) b s xs rest h =
      ⊎_elim (λ p. omega (arith, p.1)) (λ p. omega (arith, p.1.1.1.0, longer n p.0 p.1.1.0 xs rest p.1.1.1.1.0)) (uniform b s (onward (suc n)) (onward zero) xs rest (sym (steps (suc n) b s) ∙ h))

  exact : (n k : ℕ) (b : List A) (s : Source) (xs : List A) (rest : Source) → read n b s ≡ Got xs rest → Exact (length b + (k + e)) a (read k b s) xs rest
  unfolding onward
  exact zero k b s xs rest h =
      ⊎_elim
      (λ p. record { within = λ _. steps k b s ∙ p.0; beyond = λ l. absurd (omega (arith, p.1)) })
      (λ p. no_got p.1.1.1.1.0)
      (uniform b s (onward zero) (onward k) xs rest (sym (steps zero b s) ∙ h))
  exact (suc n) zero b s xs rest h =
      ⊎_elim
      (λ p. record { within = λ _. steps zero b s ∙ p.0; beyond = λ l. absurd (omega (arith, p.1)) })
      (λ p. record { within = λ l. absurd (omega (arith, p.1.1.1.0, longer n p.0 p.1.1.0 xs rest p.1.1.1.1.0)); beyond = λ _. (p.1.0, steps zero b s ∙ p.1.1.1.1.1) })
      (uniform b s (onward (suc n)) (onward zero) xs rest (sym (steps (suc n) b s) ∙ h))
  exact (suc n) (suc k) b s xs rest h =
      ⊎_elim
      (λ p. record { within = λ _. steps (suc k) b s ∙ p.0; beyond = λ l. absurd (omega (arith, p.1)) })
      (λ p.
      let again = exact n k p.0 p.1.1.0 xs rest p.1.1.1.1.0 in
      let size = p.1.1.1.0 in
      record {
        within = λ l. steps (suc k) b s ∙ p.1.1.1.1.1 ∙ again.within (omega (arith, size));
        beyond = λ l. let far = again.beyond (omega (arith, size)) in (far.0, steps (suc k) b s ∙ p.1.1.1.1.1 ∙ far.1);
      })
      (uniform b s (onward (suc n)) (onward (suc k)) xs rest (sym (steps (suc n) b s) ∙ h))

module _ {A X : Type 0} (e n : ℕ) where
  after_next : (x : Reading X) (step : X → Source → Onward A → Reading (List A)) → ((v : X) (r : Source) → Uniform A e n (step v r)) → Uniform A e n (λ more. next x (λ v r. step v r more))
  after_next (Got v r) step h = h v r
  after_next (Stop at a) step h = λ more other xs rest g. no_got g

after_joint : (n at : ℕ) (w : Option JointWord) (b : List Part) (r : Source) → length b ≡ n + 1 → Uniform Part 1 n (λ more. joined at w b r (more b at r))
after_joint n at (Some joint.And) b r l = λ more other xs rest g. inr (b, (at, (r, (l, (g, refl)))))
after_joint n at (Some joint.Then) b r l = λ more other xs rest g. let same : b ≡ xs = cc in inl (g, sym (ap length same) ∙ l)
after_joint n at None b r l = λ more other xs rest g. no_got g

after_comma : (n : ℕ) (c : Option (ℕ × Source)) (b : List Prefix) (r : Source) → length b ≡ n + 1 → Uniform Prefix 1 n (λ more. listed c b r (λ at r₂. more b at r₂))
after_comma n None b r l = λ more other xs rest g. let same : b ≡ xs = cc in inl (g, sym (ap length same) ∙ l)
after_comma n (Some c) b r l = λ more other xs rest g. inr (b, (c.0, (c.1, (l, (g, refl)))))

part_step : List (List ℕ) → List Part → Source → Onward Part → Reading (List Part)
part_step names b s more =
    next (part names false s) (λ p r.
    next (word awaited.AndOrThen r) (λ w r₂.
    joined w.0 (joint_word w.1) (b ++ (p ∷ [])) r₂ (more (b ++ (p ∷ [])) w.0 r₂)))

part_uniform : (names : List (List ℕ)) (b : List Part) (s : Source) → Uniform Part 1 (length b) (part_step names b s)
unfolding part_step
part_uniform names b s =
    after_next 1 (length b) (part names false s) (λ p r more. next (word awaited.AndOrThen r) (λ w r₂. joined w.0 (joint_word w.1) (b ++ (p ∷ [])) r₂ (more (b ++ (p ∷ [])) w.0 r₂)))
    (λ p r. after_next 1 (length b) (word awaited.AndOrThen r) (λ w r₂ more. joined w.0 (joint_word w.1) (b ++ (p ∷ [])) r₂ (more (b ++ (p ∷ [])) w.0 r₂))
    (λ w r₂. after_joint (length b) w.0 (joint_word w.1) (b ++ (p ∷ [])) r₂ (length_push b p)))

parts_exact : (n : ℕ) (names : List (List ℕ)) (s : Source) (ps : List Part) (rest : Source) → parts n names [] s ≡ Got ps rest → Exact 16 awaited.Then (condition names s) ps rest
unfolding parts part_step
parts_exact n names s ps rest h = exact 1 awaited.Then (part_step names) (λ k b r. parts k names b r) (λ b r. refl) (λ k b r. refl) (part_uniform names) n 15 [] s ps rest h

prefix_step : List Prefix → Source → Onward Prefix → Reading (List Prefix)
prefix_step b s more = next (prefix s) (λ p r. listed (comma r) (b ++ (p ∷ [])) r (λ at r₂. more (b ++ (p ∷ [])) at r₂))

prefix_uniform : (b : List Prefix) (s : Source) → Uniform Prefix 1 (length b) (prefix_step b s)
unfolding prefix_step
prefix_uniform b s =
    after_next 1 (length b) (prefix s) (λ p r more. listed (comma r) (b ++ (p ∷ [])) r (λ at r₂. more (b ++ (p ∷ [])) at r₂))
    (λ p r. after_comma (length b) (comma r) (b ++ (p ∷ [])) r (length_push b p))

prefixes_exact : (n : ℕ) (s : Source) (ps : List Prefix) (rest : Source) → prefixes n [] s ≡ Got ps rest → Exact 64 awaited.ListEnd (prefixes 63 [] s) ps rest
unfolding prefixes prefix_step
prefixes_exact n s ps rest h = exact 1 awaited.ListEnd prefix_step prefixes (λ b r. refl) (λ k b r. refl) prefix_uniform n 63 [] s ps rest h

-- a token that lets reading go on ends the policy or begins a clause, whatever is then read
taken : (P : Reading (List Written) → Type 0) (start : Option Start) (may : Bool) (at : ℕ) (b : List Written) (r : Source) (more other : Reading (List Written)) (xs : List Written) (rest : Source) → (◌≡◌ {A = Reading (List Written)} (Got b r) (Got xs rest) → P (Got b r)) → (more ≡ Got xs rest → P other) → started start may at b r more ≡ Got xs rest → P (started start may at b r other)
taken P (Some a_start.Clause) true at b r more other xs rest ends goes g = goes g
taken P (Some a_start.Clause) false at b r more other xs rest ends goes g = no_got g
taken P (Some a_start.Close) may at b r more other xs rest ends goes g = ends g
taken P None may at b r more other xs rest ends goes g = no_got g

-- a clause that was read, and what was read behind it
behind : {A B : Type 0} (P : Reading B → Type 0) (x : Reading A) (f g : A → Source → Reading B) (y : B) (rest : Source) → ((v : A) (r : Source) → f v r ≡ Got y rest → P (g v r)) → next x f ≡ Got y rest → P (next x g)
behind P (Got v r) f g y rest h e = h v r e
behind P (Stop at a) f g y rest h e = no_got e

same_row : {A : Type 0} (b xs : List A) (r rest : Source) → ◌≡◌ {A = Reading (List A)} (Got b r) (Got xs rest) → length b ≡ length xs
same_row b xs r rest e = let same : b ≡ xs = cc in ap length same

clauses_longer : (n : ℕ) (names : List (List ℕ)) (first : Bool) (b : List Written) (s : Source) (xs : List Written) (rest : Source) → clauses n names first b s ≡ Got xs rest → length b ≤ length xs
unfolding clauses
clauses_longer zero names first b (Ended at) xs rest h = no_got h
clauses_longer (suc n) names first b (Ended at) xs rest h = no_got h
clauses_longer zero names first b (More t r) xs rest h =
    taken (λ _. length b ≤ length xs) (start_of t.kind) (first || t.fresh) t.at b r (Stop t.at awaited.Close) (Stop t.at awaited.Close) xs rest (λ e. omega (arith, same_row b xs r rest e)) (λ e. no_got e) h
clauses_longer (suc n) names first b (More t r) xs rest h =
    let f : Written → Source → Reading (List Written) = λ c r₂. clauses n names false (b ++ (c ∷ [])) r₂ in
    taken (λ _. length b ≤ length xs) (start_of t.kind) (first || t.fresh) t.at b r (next (clause names r) f) (next (clause names r) f) xs rest
    (λ e. omega (arith, same_row b xs r rest e))
    (λ e. behind (λ _. length b ≤ length xs) (clause names r) f f xs rest (λ c r₂ g. omega (arith, length_push b c, clauses_longer n names false (b ++ (c ∷ [])) r₂ xs rest g)) e)
    h

clauses_exact : (n k : ℕ) (names : List (List ℕ)) (first : Bool) (b : List Written) (s : Source) (xs : List Written) (rest : Source) → clauses n names first b s ≡ Got xs rest → Exact (length b + k) awaited.Close (clauses k names first b s) xs rest
unfolding clauses
clauses_exact zero k names first b (Ended at) xs rest h = no_got h
clauses_exact (suc n) k names first b (Ended at) xs rest h = no_got h
clauses_exact zero zero names first b (More t r) xs rest h =
    taken (λ x. Exact (length b + 0) awaited.Close x xs rest) (start_of t.kind) (first || t.fresh) t.at b r (Stop t.at awaited.Close) (Stop t.at awaited.Close) xs rest
    (λ e. record { within = λ _. e; beyond = λ l. absurd (omega (arith, same_row b xs r rest e)) }) (λ e. no_got e) h
clauses_exact zero (suc k) names first b (More t r) xs rest h =
    taken (λ x. Exact (length b + suc k) awaited.Close x xs rest) (start_of t.kind) (first || t.fresh) t.at b r (Stop t.at awaited.Close) (next (clause names r) (λ c r₂. clauses k names false (b ++ (c ∷ [])) r₂)) xs rest
    (λ e. record { within = λ _. e; beyond = λ l. absurd (omega (arith, same_row b xs r rest e)) }) (λ e. no_got e) h
clauses_exact (suc n) zero names first b (More t r) xs rest h =
    let f : Written → Source → Reading (List Written) = λ c r₂. clauses n names false (b ++ (c ∷ [])) r₂ in
    taken (λ x. Exact (length b + 0) awaited.Close x xs rest) (start_of t.kind) (first || t.fresh) t.at b r (next (clause names r) f) (Stop t.at awaited.Close) xs rest
    (λ e. record { within = λ _. e; beyond = λ l. absurd (omega (arith, same_row b xs r rest e)) })
    (λ e. behind (λ _. Exact (length b + 0) awaited.Close (Stop t.at awaited.Close) xs rest) (clause names r) f f xs rest
    (λ c r₂ g. record { within = λ l. absurd (omega (arith, length_push b c, clauses_longer n names false (b ++ (c ∷ [])) r₂ xs rest g)); beyond = λ _. (t.at, refl) }) e)
    h
clauses_exact (suc n) (suc k) names first b (More t r) xs rest h =
    let f : ℕ → Written → Source → Reading (List Written) = λ j c r₂. clauses j names false (b ++ (c ∷ [])) r₂ in
    taken (λ x. Exact (length b + suc k) awaited.Close x xs rest) (start_of t.kind) (first || t.fresh) t.at b r (next (clause names r) (f n)) (next (clause names r) (f k)) xs rest
    (λ e. record { within = λ _. e; beyond = λ l. absurd (omega (arith, same_row b xs r rest e)) })
    (λ e. behind (λ x. Exact (length b + suc k) awaited.Close x xs rest) (clause names r) (f n) (f k) xs rest
    (λ c r₂ g.
    let again = clauses_exact n k names false (b ++ (c ∷ [])) r₂ xs rest g in
    record { within = λ l. again.within (omega (arith, length_push b c)); beyond = λ l. again.beyond (omega (arith, length_push b c)) }) e)
    h

pub limits : LimitLaws
limits = record { parts_exact = parts_exact; prefixes_exact = prefixes_exact; clauses_exact = λ n names s cs rest h. clauses_exact n 256 names true [] s cs rest h }
