-- Clauses are read as they are printed. Assumes nothing.
use Rattle.std.proofs.Common.{◌≡◌, ℕ, zero, suc, ◌^◌, ◌<◌, ◌≤◌, Bool, true, false, cond, leb, List, [], ◌∷◌, ◌++◌, length, codes, decimal, sym, refl, ap, ◌∙◌, append_assoc, append-nil, arith}
use Rattle.policy.specs.declared.Action.{Action}
use Rattle.policy.specs.declared.Action.TheVariants as an_action
use Rattle.policy.specs.declared.Part.{Part}
use Rattle.policy.specs.declared.Test.{Test}
use Rattle.policy.specs.declared.Test.TheVariants as a_test
use Rattle.policy_clauses.specs.Reading.{Reading, Got, Stop, Written, action_of, clause, condition, index_of, joined, list_name, next, number, or_stop, part, parts, times, word}
use Rattle.policy_clauses.specs.declared.Awaited.{Awaited}
use Rattle.policy_clauses.specs.declared.Awaited.TheVariants as awaited
use Rattle.policy_items.specs.Items.{clauses}
use Rattle.policy_print.specs.Printed.{action_text, clause_text, clauses_text, line_end, name_text, not_text, part_text, parts_text, test_text}
use Rattle.policy_words.specs.Words.{is_ascii, joint_word, number_of}
use Rattle.std.proofs.lemmas.Fmt.{decimal_nonempty}
use Rattle.std.proofs.lemmas.Bool.{cond-true, le-leb}
use Rattle.std.specs.List.{AllByRecursion as All}
use Rattle.text_tokens.proofs.Plain.{Stops, blank_stops, line_stops, plain, word_behind}
use Rattle.text_tokens.specs.Tokens.{Source, Between}
use Rattle.policy_print_laws.specs.Limits.{ActionFits, ClauseFits, PartFits, TestFits}
use Rattle.policy_print_laws.proofs.Spelling.{Plainly, ascii, letters, names_below, number_decimal, plain_decimal, plain_name, present}

-- the tokens behind a word
abbrev pub behind : List ℕ → Source
behind rest = plain (Between false) rest

pub word_read : (a : Awaited) (w rest : List ℕ) → 0 < length w → All Plainly w → Stops rest → word a (behind (w ++ rest)) ≡ Got (0, w) (behind rest)
word_read a [] rest some all s = absurd (omega arith)
word_read a (b ∷ bs) rest some all s =
    ap (word a) (word_behind false b bs rest (letters (b ∷ bs) all) s) ∙ cond-true (is_ascii (b ∷ bs)) _ _ (ascii (b ∷ bs) all)

pub number_read : (a : Awaited) (n : ℕ) (rest : List ℕ) → n < 2 ^ 32 → Stops rest → number a (behind (decimal n ++ rest)) ≡ Got n (behind rest)
number_read a n rest h s =
    ap (λ x. next x (λ w r. or_stop (number_of w.1) (λ m. Got m r) (Stop w.0 a))) (word_read a (decimal n) rest (decimal_nonempty n (omega arith)) (plain_decimal n (omega arith)) s)
    ∙ ap (λ o. or_stop o (λ m. Got m (behind rest)) (Stop 0 a)) (number_decimal n h)

module _ (count : ℕ) (few : count ≤ 64) where
  names : List (List ℕ)
  names = names_below count

  list_name_read : (i : ℕ) (rest : List ℕ) → i < count → Stops rest → list_name (names_below count) (behind (name_text i ++ rest)) ≡ Got i (behind rest)
  list_name_read i rest h s =
      ap (λ x. next x (λ w r. or_stop (index_of w.1 (names_below count)) (λ j. Got j r) (Stop w.0 awaited.ListName))) (word_read awaited.ListName (name_text i) rest (omega arith) (plain_name i (omega arith)) s)
      ∙ ap (λ o. or_stop o (λ j. Got j (behind rest)) (Stop 0 awaited.ListName)) (present count i h few)

  abbrev with : Bool → Test → Source → Reading Part
  with negated t rest = Got (record { negated = negated; test = t }) rest

  test_read : (negated : Bool) (t : Test) (rest : List ℕ) → TestFits count t → Stops rest → part (names_below count) negated (behind (test_text t ++ rest)) ≡ with negated t (behind rest)
  unfolding plain part
  test_read negated a_test.Any rest h s = ap (part (names_below count) negated) (word_behind false 97 (110 ∷ (121 ∷ [])) rest (refl, (refl, (refl, tt))) s)
  test_read negated (a_test.PrefixIn i) rest h s = ap (λ x. next (next x (λ j r. Got (a_test.PrefixIn j) r)) (with negated)) (list_name_read i rest h s)
  test_read negated (a_test.PrefixWithin i) rest h s = ap (λ x. next (next x (λ j r. Got (a_test.PrefixWithin j) r)) (with negated)) (list_name_read i rest h s)
  test_read negated (a_test.Passes n) rest h s = ap (λ x. next (next x (λ m r. Got (a_test.Passes m) r)) (with negated)) (number_read awaited.Number n rest h s)
  test_read negated (a_test.HasCommunity n) rest h s = ap (λ x. next (next x (λ m r. Got (a_test.HasCommunity m) r)) (with negated)) (number_read awaited.Number n rest h s)
  test_read negated (a_test.LongerThan n) rest h s = ap (λ x. next (next x (λ m r. Got (a_test.LongerThan m) r)) (with negated)) (number_read awaited.Number n rest h s)

  signed_read : (negated : Bool) (t : Test) (rest : List ℕ) → TestFits count t → Stops rest → part (names_below count) false (behind ((not_text negated ++ test_text t) ++ rest)) ≡ with negated t (behind rest)
  unfolding plain part
  signed_read true t rest h s = test_read true t rest h s
  signed_read false t rest h s = test_read false t rest h s

  pub part_read : (p : Part) (rest : List ℕ) → PartFits count p → Stops rest → part (names_below count) false (behind (part_text p ++ rest)) ≡ Got p (behind rest)
  part_read p rest h s = signed_read p.negated p.test rest h s

  -- how reading goes on behind a part, if no more may come, and if k more may
  abbrev last : List Part → Part → Source → Reading (List Part)
  last before p r = next (word awaited.AndOrThen r) (λ w r₂. joined w.0 (joint_word w.1) (before ++ (p ∷ [])) r₂ (Stop w.0 awaited.Then))

  abbrev onward : ℕ → List Part → Part → Source → Reading (List Part)
  onward k before p r = next (word awaited.AndOrThen r) (λ w r₂. joined w.0 (joint_word w.1) (before ++ (p ∷ [])) r₂ (parts k (names_below count) (before ++ (p ∷ [])) r₂))

  then_stops : (ps : List Part) (rest : List ℕ) → Stops (parts_text (codes " and ") ps ++ (codes " then " ++ rest))
  unfolding parts_text
  then_stops [] rest = blank_stops
  then_stops (p ∷ ps) rest = blank_stops

  parts_read : (k : ℕ) (before : List Part) (p : Part) (ps : List Part) (rest : List ℕ) → length ps ≤ k → All (PartFits count) (p ∷ ps) → parts k (names_below count) before (behind (parts_text [] (p ∷ ps) ++ (codes " then " ++ rest))) ≡ Got (before ++ (p ∷ ps)) (behind rest)
  unfolding parts parts_text plain
  parts_read zero before p [] rest h all =
      ap (λ t. parts zero (names_below count) before (behind t)) (append_assoc (part_text p) [] (codes " then " ++ rest))
      ∙ ap (λ x. next x (last before)) (part_read p (codes " then " ++ rest) all.0 blank_stops)
  parts_read (suc k) before p [] rest h all =
      ap (λ t. parts (suc k) (names_below count) before (behind t)) (append_assoc (part_text p) [] (codes " then " ++ rest))
      ∙ ap (λ x. next x (onward k before)) (part_read p (codes " then " ++ rest) all.0 blank_stops)
  parts_read zero before p (q ∷ qs) rest h all = absurd (omega arith)
  parts_read (suc k) before p (q ∷ qs) rest h all =
      ap (λ t. parts (suc k) (names_below count) before (behind t)) (append_assoc (part_text p) (parts_text (codes " and ") (q ∷ qs)) (codes " then " ++ rest))
      ∙ ap (λ x. next x (onward k before)) (part_read p (parts_text (codes " and ") (q ∷ qs) ++ (codes " then " ++ rest)) all.0 blank_stops)
      ∙ parts_read k (before ++ (p ∷ [])) q qs rest (omega arith) all.1
      ∙ ap (λ xs. Got xs (behind rest)) (append_assoc before (p ∷ []) (q ∷ qs))

  condition_read : (ps : List Part) (rest : List ℕ) → 1 ≤ length ps → length ps ≤ 16 → All (PartFits count) ps → condition (names_below count) (behind (parts_text [] ps ++ (codes " then " ++ rest))) ≡ Got ps (behind rest)
  condition_read [] rest some most all = absurd (omega arith)
  condition_read (p ∷ ps) rest some most all = parts_read 15 [] p ps rest (omega arith) all

times_read : (n : ℕ) (rest : List ℕ) → n ≤ 8 → Stops rest → times (behind (codes " times " ++ (decimal n ++ rest))) ≡ Got n (behind rest)
unfolding plain
times_read n rest h s =
    ap (λ x. next x (λ v r. or_stop (number_of v.1) (λ m. cond (leb m 8) (Got m r) (Stop v.0 awaited.Count)) (Stop v.0 awaited.Count))) (word_read awaited.Count (decimal n) rest (decimal_nonempty n (omega arith)) (plain_decimal n (omega arith)) s)
    ∙ ap (λ o. or_stop o (λ m. cond (leb m 8) (Got m (behind rest)) (Stop 0 awaited.Count)) (Stop 0 awaited.Count)) (number_decimal n (omega arith))
    ∙ cond-true (leb n 8) _ _ (le-leb n 8 h)

abbrev numbered : (ℕ → Action) → ℕ → Source → Reading Action
numbered f n r = Got (f n) r

pub action_read : (a : Action) (rest : List ℕ) → ActionFits a → Stops rest → action_of (behind (action_text a ++ rest)) ≡ Got a (behind rest)
unfolding plain
action_read an_action.Accept rest h s = ap action_of (word_behind false 116 (97 ∷ (107 ∷ (101 ∷ []))) rest (refl, (refl, (refl, (refl, tt)))) s)
action_read an_action.Reject rest h s = ap action_of (word_behind false 108 (101 ∷ (97 ∷ (118 ∷ (101 ∷ [])))) rest (refl, (refl, (refl, (refl, (refl, tt))))) s)
action_read (an_action.SetLocalPref n) rest h s = ap (λ x. next x (numbered an_action.SetLocalPref)) (number_read awaited.Number n rest h s)
action_read (an_action.SetMed n) rest h s = ap (λ x. next x (numbered an_action.SetMed)) (number_read awaited.Number n rest h s)
action_read (an_action.AddCommunity n) rest h s = ap (λ x. next x (numbered an_action.AddCommunity)) (number_read awaited.Number n rest h s)
action_read (an_action.RemoveCommunity n) rest h s = ap (λ x. next x (numbered an_action.RemoveCommunity)) (number_read awaited.Number n rest h s)
action_read (an_action.Prepend asn n) rest h s =
    ap (λ t. action_of (behind (codes "front " ++ t))) (append_assoc (decimal asn) (codes " times " ++ decimal n) rest)
    ∙ ap (λ x. next x (λ m r. next (times r) (λ k r₂. Got (an_action.Prepend m k) r₂))) (number_read awaited.Number asn (codes " times " ++ (decimal n ++ rest)) h.0 blank_stops)
    ∙ ap (λ x. next x (λ k r₂. Got (an_action.Prepend asn k) r₂)) (times_read n rest h.1 s)

module _ (count : ℕ) (few : count ≤ 64) where
  -- a clause, behind its `if`
  pub clause_read : (c : Written) (rest : List ℕ) → ClauseFits count c → clause (names_below count) (behind ((parts_text [] c.parts ++ (codes " then " ++ (action_text c.action ++ line_end))) ++ rest)) ≡ Got c (plain (Between true) rest)
  unfolding plain
  clause_read c rest h =
      ap (λ t. clause (names_below count) (behind t)) (append_assoc (parts_text [] c.parts) (codes " then " ++ (action_text c.action ++ line_end)) rest)
      ∙ ap (λ t. clause (names_below count) (behind (parts_text [] c.parts ++ (codes " then " ++ t)))) (append_assoc (action_text c.action) line_end rest)
      ∙ ap (λ x. next x (λ ps r. next (action_of r) (λ a r₂. Got (record { parts = ps; action = a }) r₂))) (condition_read count few c.parts (action_text c.action ++ (10 ∷ rest)) h.some h.few h.parts)
      ∙ ap (λ x. next x (λ a r₂. Got (record { parts = c.parts; action = a }) r₂)) (action_read c.action (10 ∷ rest) h.action line_stops)

  line_read : (k : ℕ) (first : Bool) (before : List Written) (c : Written) (rest : List ℕ) → ClauseFits count c → clauses (suc k) (names_below count) first before (plain (Between true) (clause_text c ++ rest)) ≡ clauses k (names_below count) false (before ++ (c ∷ [])) (plain (Between true) rest)
  unfolding plain clauses
  line_read k true before c rest h = ap (λ x. next x (λ d r. clauses k (names_below count) false (before ++ (d ∷ [])) r)) (clause_read c rest h)
  line_read k false before c rest h = ap (λ x. next x (λ d r. clauses k (names_below count) false (before ++ (d ∷ [])) r)) (clause_read c rest h)

  pub clauses_read_lem : (k : ℕ) (first : Bool) (before cs : List Written) (rest : List ℕ) → length cs ≤ k → All (ClauseFits count) cs → clauses k (names_below count) first before (plain (Between true) (clauses_text cs ++ (codes "}" ++ (line_end ++ rest)))) ≡ Got (before ++ cs) (plain (Between true) rest)
  unfolding plain clauses
  clauses_read_lem zero first before [] rest h all = ap (λ xs. Got xs (plain (Between true) rest)) (sym (append-nil before))
  clauses_read_lem (suc k) first before [] rest h all = ap (λ xs. Got xs (plain (Between true) rest)) (sym (append-nil before))
  clauses_read_lem zero first before (c ∷ cs) rest h all = absurd (omega arith)
  clauses_read_lem (suc k) first before (c ∷ cs) rest h all =
      ap (λ t. clauses (suc k) (names_below count) first before (plain (Between true) t)) (append_assoc (clause_text c) (clauses_text cs) (codes "}" ++ (line_end ++ rest)))
      ∙ line_read k first before c (clauses_text cs ++ (codes "}" ++ (line_end ++ rest))) all.0
      ∙ clauses_read_lem k false (before ++ (c ∷ [])) cs rest (omega arith) all.1
      ∙ ap (λ xs. Got xs (plain (Between true) rest)) (append_assoc before (c ∷ []) cs)
