-- What is read does not hang on places. Assumes nothing.
use Rattle.std.proofs.Common.{◌≡◌, ℕ, zero, suc, Bool, true, false, cond, not, ◌&&◌, ◌||◌, List, [], ◌∷◌, ◌++◌, is_some, Some, None, Option, refl, ap, ◌∙◌}
use Rattle.policy_clauses.proofs.Unplaced.{bare, clause_blind, cond_blind, or_blind, strip, then_blind, word_blind}
use Rattle.policy_clauses.specs.Reading.{Reading, Got, Stop, Written, clause, index_of, next, or_stop, word}
use Rattle.policy_clauses.specs.declared.Awaited.TheVariants as awaited
use Rattle.policy_words.specs.Words.{is_name, prefix_of}
use Rattle.prefix.specs.Prefix.{Prefix}
use Rattle.std.specs.Option.{option_map}
use Rattle.text_tokens.specs.Spacing.{unplaced}
use Rattle.text_tokens.specs.Tokens.{Source, Ended, More}
use Rattle.policy_items.specs.declared.signs.Start.{Start}
use Rattle.policy_items.specs.declared.signs.Start.TheVariants as a_start
use Rattle.policy_items.specs.Items.{clauses, comma, equals, is_comma, is_equals, is_open, list_head, listed, opens, prefix, prefixes, start_of, started}

equals_blind : (s : Source) → equals (unplaced s) ≡ strip (equals s)
unfolding unplaced
equals_blind (Ended at) = refl
equals_blind (More t rest) =
    cond_blind t.fresh (Stop 0 awaited.Equals) (Stop t.at awaited.Equals) (cond (is_equals t.kind) (Got tt (unplaced rest)) (Stop 0 awaited.Equals)) (cond (is_equals t.kind) (Got tt rest) (Stop t.at awaited.Equals)) refl
    (cond_blind (is_equals t.kind) (Got tt (unplaced rest)) (Got tt rest) (Stop 0 awaited.Equals) (Stop t.at awaited.Equals) refl refl)

pub opens_blind : (s : Source) → opens (unplaced s) ≡ strip (opens s)
unfolding unplaced
opens_blind (Ended at) = refl
opens_blind (More t rest) = cond_blind (is_open t.kind) (Got tt (unplaced rest)) (Got tt rest) (Stop 0 awaited.Open) (Stop t.at awaited.Open) refl refl

abbrev bare_comma : ℕ × Source → ℕ × Source
bare_comma c = (0, unplaced c.1)

both_conds : (a b : Bool) (x : ℕ × Source) → cond a None (cond b (Some (bare_comma x)) None) ≡ option_map bare_comma (cond a None (cond b (Some x) None))
both_conds true b x = refl
both_conds false true x = refl
both_conds false false x = refl

comma_blind : (s : Source) → comma (unplaced s) ≡ option_map bare_comma (comma s)
unfolding unplaced
comma_blind (Ended at) = refl
comma_blind (More t rest) = both_conds t.fresh (is_comma t.kind) (t.at, rest)

prefix_blind : (s : Source) → prefix (unplaced s) ≡ strip (prefix s)
prefix_blind =
    then_blind bare (word awaited.Prefix) (λ w rest. or_stop (prefix_of w.1) (λ p. Got p rest) (Stop w.0 awaited.Prefix)) (word_blind awaited.Prefix)
    (λ w r. or_blind (prefix_of w.1) (λ p. Got p (unplaced r)) (λ p. Got p r) (Stop 0 awaited.Prefix) (Stop w.0 awaited.Prefix) (λ p. refl) refl)

listed_blind : (c : Option (ℕ × Source)) (ps : List Prefix) (r : Source) (f : ℕ → Source → Reading (List Prefix)) → ((at : ℕ) (s : Source) → f 0 (unplaced s) ≡ strip (f at s)) → listed (option_map bare_comma c) ps (unplaced r) f ≡ strip (listed c ps r f)
listed_blind None ps r f e = refl
listed_blind (Some c) ps r f e = e c.0 c.1

-- behind a prefix
ahead : (ps : List Prefix) (r : Source) (f : ℕ → Source → Reading (List Prefix)) → ((at : ℕ) (s : Source) → f 0 (unplaced s) ≡ strip (f at s)) → listed (comma (unplaced r)) ps (unplaced r) f ≡ strip (listed (comma r) ps r f)
ahead ps r f e = ap (λ c. listed c ps (unplaced r) f) (comma_blind r) ∙ listed_blind (comma r) ps r f e

pub prefixes_blind : (k : ℕ) (b : List Prefix) (s : Source) → prefixes k b (unplaced s) ≡ strip (prefixes k b s)
unfolding prefixes
prefixes_blind zero b =
    then_blind (λ x. x) prefix (λ p rest. listed (comma rest) (b ++ (p ∷ [])) rest (λ at rest₂. Stop at awaited.ListEnd)) prefix_blind
    (λ p r. ahead (b ++ (p ∷ [])) r (λ at rest₂. Stop at awaited.ListEnd) (λ at s. refl))
prefixes_blind (suc k) b =
    then_blind (λ x. x) prefix (λ p rest. listed (comma rest) (b ++ (p ∷ [])) rest (λ at rest₂. prefixes k (b ++ (p ∷ [])) rest₂)) prefix_blind
    (λ p r. ahead (b ++ (p ∷ [])) r (λ at rest₂. prefixes k (b ++ (p ∷ [])) rest₂) (λ at s. prefixes_blind k (b ++ (p ∷ [])) s))

pub list_head_blind : (names : List (List ℕ)) (s : Source) → list_head names (unplaced s) ≡ strip (list_head names s)
list_head_blind names =
    then_blind bare (word awaited.NewName) (λ w rest. cond (is_name w.1 && not (is_some (index_of w.1 names))) (next (equals rest) (λ _ rest₂. Got w.1 rest₂)) (Stop w.0 awaited.NewName)) (word_blind awaited.NewName)
    (λ w r. cond_blind (is_name w.1 && not (is_some (index_of w.1 names))) (next (equals (unplaced r)) (λ _ rest₂. Got w.1 rest₂)) (next (equals r) (λ _ rest₂. Got w.1 rest₂)) (Stop 0 awaited.NewName) (Stop w.0 awaited.NewName)
    (then_blind (λ x. x) equals (λ _ rest₂. Got w.1 rest₂) equals_blind (λ v r₂. refl) r) refl)

started_blind : (start : Option Start) (may : Bool) (at : ℕ) (b : List Written) (r : Source) (x y : Reading (List Written)) → x ≡ strip y → started start may 0 b (unplaced r) x ≡ strip (started start may at b r y)
started_blind (Some a_start.Clause) may at b r x y e = cond_blind may x y (Stop 0 awaited.Clause) (Stop at awaited.Clause) e refl
started_blind (Some a_start.Close) may at b r x y e = refl
started_blind None may at b r x y e = refl

pub clauses_blind : (k : ℕ) (names : List (List ℕ)) (first : Bool) (b : List Written) (s : Source) → clauses k names first b (unplaced s) ≡ strip (clauses k names first b s)
unfolding clauses unplaced
clauses_blind zero names first b (Ended at) = refl
clauses_blind (suc k) names first b (Ended at) = refl
clauses_blind zero names first b (More t r) = started_blind (start_of t.kind) (first || t.fresh) t.at b r (Stop 0 awaited.Close) (Stop t.at awaited.Close) refl
clauses_blind (suc k) names first b (More t r) =
    started_blind (start_of t.kind) (first || t.fresh) t.at b r (next (clause names (unplaced r)) (λ c rest₂. clauses k names false (b ++ (c ∷ [])) rest₂)) (next (clause names r) (λ c rest₂. clauses k names false (b ++ (c ∷ [])) rest₂))
    (then_blind (λ x. x) (clause names) (λ c rest₂. clauses k names false (b ++ (c ∷ [])) rest₂) (clause_blind names) (λ c r₂. clauses_blind k names false (b ++ (c ∷ [])) r₂) r)
