-- The grammar of lists and of rows of clauses. Assumes nothing.
use Rattle.std.specs.Prelude.{ℕ, zero, suc, Bool, true, false, cond, not, ◌&&◌, ◌||◌, List, [], ◌∷◌, ◌++◌, is_some, Some, None, codes, Option}
use Rattle.prefix.specs.Prefix.{Prefix}
use Rattle.policy_clauses.specs.declared.Awaited.TheVariants as awaited
use Rattle.policy_clauses.specs.Reading.{Reading, Got, Stop, Written, clause, index_of, next, or_stop, word}
use Rattle.policy_words.specs.Words.{is_name, prefix_of}
use Rattle.std.specs.Str.{bytes_eq}
use Rattle.text_tokens.specs.Tokens.{Kind, Word, Sign, Source, Ended, More}
use Rattle.text_tokens.specs.declared.Sign.TheVariants as a_sign
use Rattle.policy_items.specs.declared.signs.Start as stored_start
use Rattle.policy_items.specs.declared.signs.Start.TheVariants as a_start

abbrev pub is_equals : Kind → Bool
is_equals (Word w) = false
is_equals (Sign a_sign.Open) = false
is_equals (Sign a_sign.Close) = false
is_equals (Sign a_sign.Equals) = true
is_equals (Sign a_sign.Comma) = false

abbrev pub is_open : Kind → Bool
is_open (Word w) = false
is_open (Sign a_sign.Open) = true
is_open (Sign a_sign.Close) = false
is_open (Sign a_sign.Equals) = false
is_open (Sign a_sign.Comma) = false

abbrev pub is_comma : Kind → Bool
is_comma (Word w) = false
is_comma (Sign a_sign.Open) = false
is_comma (Sign a_sign.Close) = false
is_comma (Sign a_sign.Equals) = false
is_comma (Sign a_sign.Comma) = true

-- `=` on the same line
abbrev pub equals : Source → Reading (Unit {0})
equals (Ended at) = Stop at awaited.Equals
equals (More t rest) = cond t.fresh (Stop t.at awaited.Equals) (cond (is_equals t.kind) (Got tt rest) (Stop t.at awaited.Equals))

-- `{`, on this line or below
abbrev pub opens : Source → Reading (Unit {0})
opens (Ended at) = Stop at awaited.Open
opens (More t rest) = cond (is_open t.kind) (Got tt rest) (Stop t.at awaited.Open)

-- a comma on the same line, its offset, and what is behind it
abbrev pub comma : Source → Option (ℕ × Source)
comma (Ended at) = None
comma (More t rest) = cond t.fresh None (cond (is_comma t.kind) (Some (t.at, rest)) None)

-- what a token begins within a policy: `if` a clause, and `}` ends the policy
abbrev pub start_of : Kind → Option stored_start.Start
start_of (Word w) = cond (bytes_eq w (codes "if")) (Some a_start.Clause) None
start_of (Sign a_sign.Open) = None
start_of (Sign a_sign.Close) = Some a_start.Close
start_of (Sign a_sign.Equals) = None
start_of (Sign a_sign.Comma) = None

-- a prefix on the same line
abbrev pub prefix : Source → Reading Prefix
prefix s = next (word awaited.Prefix s) (λ w rest. or_stop (prefix_of w.1) (λ p. Got p rest) (Stop w.0 awaited.Prefix))

-- behind a prefix the list goes on with a comma, or ends
abbrev pub listed : Option (ℕ × Source) → List Prefix → Source → (ℕ → Source → Reading (List Prefix)) → Reading (List Prefix)
listed None prefixes rest more = Got prefixes rest
listed (Some c) prefixes rest more = more c.0 c.1

-- the prefixes of a list, after those before; k more than the next one may come
unfoldable pub prefixes : ℕ → List Prefix → Source → Reading (List Prefix)
prefixes zero before s = next (prefix s) (λ p rest. listed (comma rest) (before ++ (p ∷ [])) rest (λ at rest₂. Stop at awaited.ListEnd))
prefixes (suc k) before s = next (prefix s) (λ p rest. listed (comma rest) (before ++ (p ∷ [])) rest (λ at rest₂. prefixes k (before ++ (p ∷ [])) rest₂))

-- a list has 1 to 64 prefixes
abbrev pub prefix_list : Source → Reading (List Prefix)
prefix_list s = prefixes 63 [] s

-- a name that no list above has, and `=`
abbrev pub list_head : List (List ℕ) → Source → Reading (List ℕ)
list_head names s =
    next (word awaited.NewName s) (λ w rest.
    cond (is_name w.1 && not (is_some (index_of w.1 names)))
    (next (equals rest) (λ _ rest₂. Got w.1 rest₂))
    (Stop w.0 awaited.NewName))

-- behind the token at the offset: a clause, or the end of the policy; a clause is the first of its policy or the first on its line
abbrev pub started : Option stored_start.Start → Bool → ℕ → List Written → Source → Reading (List Written) → Reading (List Written)
started (Some a_start.Clause) may at before rest more = cond may more (Stop at awaited.Clause)
started (Some a_start.Close) may at before rest more = Got before rest
started None may at before rest more = Stop at awaited.Clause

-- the clauses of a policy, after those before, and `}`; k more may come
unfoldable pub clauses : ℕ → List (List ℕ) → Bool → List Written → Source → Reading (List Written)
clauses zero names first before (Ended at) = Stop at awaited.Clause
clauses zero names first before (More t rest) = started (start_of t.kind) (first || t.fresh) t.at before rest (Stop t.at awaited.Close)
clauses (suc k) names first before (Ended at) = Stop at awaited.Clause
clauses (suc k) names first before (More t rest) = started (start_of t.kind) (first || t.fresh) t.at before rest (next (clause names rest) (λ c rest₂. clauses k names false (before ++ (c ∷ [])) rest₂))
