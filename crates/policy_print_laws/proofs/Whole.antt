-- Whole texts are read as they are printed. Assumes nothing.
use Rattle.std.proofs.Common.{◌≡◌, ℕ, zero, suc, ◌+◌, ◌-◌, ◌*◌, ◌/◌, ◌%◌, ◌<◌, ◌≤◌, min, true, cond, not, ◌&&◌, ltb, leb, List, [], ◌∷◌, ◌++◌, length, get_or, take, drop, set, replicate, is_some, Some, None, codes, decimal, Option, sym, refl, ap, ◌∙◌, subst, append_assoc, append-nil, arith, length-append}
use Rattle.policy.specs.declared.Action.{Action}
use Rattle.policy.specs.declared.Action.TheVariants as an_action
use Rattle.policy_clauses.specs.Reading.{Reading, Got, Stop, Written, index_of, next, or_stop}
use Rattle.policy_clauses.specs.declared.Awaited.TheVariants as awaited
use Rattle.policy_items.specs.Items.{clauses, comma, equals, list_head, listed, opens, prefix, prefix_list, prefixes}
use Rattle.policy_print.specs.Printed.{action_text, clause_text, clauses_text, direction_text, line_end, list_text, lists_text, name_text, parts_text, policies_text, policy_text, prefix_text, prefixes_text, printed}
use Rattle.policy_tables.proofs.Truths.{items_blind}
use Rattle.policy_tables.specs.Laws.{placeless}
use Rattle.policy_tables.specs.Texts.{Content, Draft, Outcome, Read, Refused, empty, items, meaning, nothing, outcome, peer, place_of, with_list, with_policy}
use Rattle.policy_tables.specs.Texts as texts
use Rattle.policy_tables.specs.declared.Direction.{Direction}
use Rattle.policy_tables.specs.declared.Direction.TheVariants.{Import, Export}
use Rattle.policy_words.specs.Words.{is_name, number_of, prefix_of}
use Rattle.prefix.specs.Prefix.{Prefix}
use Rattle.std.proofs.lemmas.Fmt.{decimal_nonempty}
use Rattle.std.proofs.lemmas.List.{get_or_at, length_push, length-take-le, set_at, take_all, take-append-drop, take_more}
use Rattle.std.proofs.lemmas.Bool.{and_from, cond-true, le-leb, lt-ltb}
use Rattle.std.specs.List.{AllByRecursion as All}
use Rattle.text_tokens.proofs.Plain.{Stops, blank_stops, comma_stops, first_fresh, is_fresh, line_stops, plain, unplaced_tokens}
use Rattle.text_tokens.specs.Tokens.{Source, Between, Ended, More, tokens}
use Rattle.policy_print_laws.specs.Limits.{Fits, IsPrefix, ListFits, PolicyFits}
use Rattle.policy_print_laws.specs.Reprinted.{Reprinted}
use Rattle.policy_print_laws.specs.RoundTrip.{RoundTrip}
use Rattle.policy_print_laws.proofs.Clauses.{behind, clauses_read_lem, word_read}
use Rattle.policy_print_laws.proofs.Fitting.{fitting}
use Rattle.policy_print_laws.proofs.Spelling.{absent, is_name_lem, names_below, number_decimal, plain_decimal, plain_name, plain_prefix, prefix_back}

-- the tokens from the start of a line on
abbrev line : List ℕ → Source
line rest = plain (Between true) rest

prefix_some : (p : Prefix) → IsPrefix p → 0 < length (prefix_text p)
prefix_some p h = omega (arith, length-append (decimal (p.address / 16777216)) (codes "." ++ (decimal (p.address / 65536 % 256) ++ (codes "." ++ (decimal (p.address / 256 % 256) ++ (codes "." ++ (decimal (p.address % 256) ++ (codes "/" ++ decimal p.length))))))))

prefix_read : (p : Prefix) (rest : List ℕ) → IsPrefix p → Stops rest → prefix (behind (prefix_text p ++ rest)) ≡ Got p (behind rest)
prefix_read p rest h s =
    ap (λ x. next x (λ w r. or_stop (prefix_of w.1) (λ q. Got q r) (Stop w.0 awaited.Prefix))) (word_read awaited.Prefix (prefix_text p) rest (prefix_some p h) (plain_prefix p h) s)
    ∙ ap (λ o. or_stop o (λ q. Got q (behind rest)) (Stop 0 awaited.Prefix)) (prefix_back p h)

fresh_none : (s : Source) → is_fresh s ≡ true → comma s ≡ None
fresh_none (Ended at) h = refl
fresh_none (More t rest) h = cond-true t.fresh _ _ h

-- behind the last prefix a list ends with its line
list_ends : (before : List Prefix) (rest : List ℕ) (more : ℕ → Source → Reading (List Prefix)) → listed (comma (behind (10 ∷ rest))) before (behind (10 ∷ rest)) more ≡ Got before (line rest)
unfolding plain
list_ends before rest more = ap (λ c. listed c before (line rest) more) (fresh_none (line rest) (first_fresh rest))

abbrev last : List Prefix → Prefix → Source → Reading (List Prefix)
last before p r = listed (comma r) (before ++ (p ∷ [])) r (λ at r₂. Stop at awaited.ListEnd)

abbrev onward : ℕ → List Prefix → Prefix → Source → Reading (List Prefix)
onward k before p r = listed (comma r) (before ++ (p ∷ [])) r (λ at r₂. prefixes k (before ++ (p ∷ [])) r₂)

prefixes_read : (k : ℕ) (before : List Prefix) (p : Prefix) (ps : List Prefix) (rest : List ℕ) → length ps ≤ k → All IsPrefix (p ∷ ps) → prefixes k before (behind (prefixes_text [] (p ∷ ps) ++ (10 ∷ rest))) ≡ Got (before ++ (p ∷ ps)) (line rest)
unfolding prefixes prefixes_text plain
prefixes_read zero before p [] rest h all =
    ap (λ t. prefixes zero before (behind t)) (append_assoc (prefix_text p) [] (10 ∷ rest))
    ∙ ap (λ x. next x (last before)) (prefix_read p (10 ∷ rest) all.0 line_stops)
    ∙ list_ends (before ++ (p ∷ [])) rest (λ at r₂. Stop at awaited.ListEnd)
prefixes_read (suc k) before p [] rest h all =
    ap (λ t. prefixes (suc k) before (behind t)) (append_assoc (prefix_text p) [] (10 ∷ rest))
    ∙ ap (λ x. next x (onward k before)) (prefix_read p (10 ∷ rest) all.0 line_stops)
    ∙ list_ends (before ++ (p ∷ [])) rest (λ at r₂. prefixes k (before ++ (p ∷ [])) r₂)
prefixes_read zero before p (q ∷ qs) rest h all = absurd (omega arith)
prefixes_read (suc k) before p (q ∷ qs) rest h all =
    ap (λ t. prefixes (suc k) before (behind t)) (append_assoc (prefix_text p) (prefixes_text (codes ", ") (q ∷ qs)) (10 ∷ rest))
    ∙ ap (λ x. next x (onward k before)) (prefix_read p (prefixes_text (codes ", ") (q ∷ qs) ++ (10 ∷ rest)) all.0 comma_stops)
    ∙ prefixes_read k (before ++ (p ∷ [])) q qs rest (omega arith) all.1
    ∙ ap (λ xs. Got xs (line rest)) (append_assoc before (p ∷ []) (q ∷ qs))

list_read : (ps : List Prefix) (rest : List ℕ) → ListFits ps → prefix_list (behind (prefixes_text [] ps ++ (10 ∷ rest))) ≡ Got ps (line rest)
list_read [] rest h = absurd (omega (arith, h.some))
list_read (p ∷ ps) rest h = prefixes_read 63 [] p ps rest (omega (arith, h.few)) h.all

head_read : (i : ℕ) (rest : List ℕ) → i < 64 → list_head (names_below i) (behind (name_text i ++ (codes " = " ++ rest))) ≡ Got (name_text i) (behind rest)
unfolding plain
head_read i rest h =
    ap
    (λ x. next x (λ w r. cond (is_name w.1 && not (is_some (index_of w.1 (names_below i)))) (next (equals r) (λ _ r₂. Got w.1 r₂)) (Stop w.0 awaited.NewName)))
    (word_read awaited.NewName (name_text i) (codes " = " ++ rest) (omega arith) (plain_name i (omega arith)) blank_stops)
    ∙ cond-true (is_name (name_text i) && not (is_some (index_of (name_text i) (names_below i)))) _ _ (and_from (is_name (name_text i)) _ (is_name_lem i (omega arith)) (ap (λ o. not (is_some o)) (absent i i (omega arith) (omega arith))))

-- the lists that were read, with their names
abbrev drafted : ℕ → List (List Prefix) → Draft
drafted n ls = record { names = names_below n; lists = ls; policies = nothing.policies; count = 0 }

one_list : (j peers : ℕ) (done : List (List Prefix)) (l : List Prefix) (rest : List ℕ) → length done < 64 → ListFits l → items (suc j) peers (drafted (length done) done) (line (list_text (length done) l ++ rest)) ≡ items j peers (drafted (suc (length done)) (done ++ (l ∷ []))) (line rest)
unfolding plain items names_below
one_list j peers done l rest few h =
    let i : ℕ = length done in
    let d : Draft = drafted i done in
    ap (λ t. items (suc j) peers d (line (codes "list l" ++ t))) (append_assoc (decimal i) (codes " = " ++ (prefixes_text [] l ++ line_end)) rest)
    ∙ ap (λ t. items (suc j) peers d (line (codes "list " ++ (name_text i ++ (codes " = " ++ t))))) (append_assoc (prefixes_text [] l) line_end rest)
    ∙ ap (λ x. next x (λ e r. items j peers e r)) (cond-true (ltb i 64) _ _ (lt-ltb i 64 few))
    ∙ ap (λ x. next (next x (λ name r. next (prefix_list r) (λ list r₂. Got (with_list name list d) r₂))) (λ e r. items j peers e r)) (head_read i (prefixes_text [] l ++ (10 ∷ rest)) few)
    ∙ ap (λ x. next (next x (λ list r₂. Got (with_list (name_text i) list d) r₂)) (λ e r. items j peers e r)) (list_read l rest h)

-- the text from here on leads to the draft, if at least m lists and policies may come
abbrev Leads : ℕ → ℕ → Draft → List ℕ → Draft → Type 0
Leads m peers d text e = (j : ℕ) → m ≤ j → items j peers d (line text) ≡ Got e (Ended 0)

ends : (peers : ℕ) (d : Draft) → Leads 0 peers d [] d
unfolding plain items
ends peers d zero h = refl
ends peers d (suc j) h = refl

lists_lead : (m peers : ℕ) (done ls : List (List Prefix)) (rest : List ℕ) (e : Draft) → length done + length ls ≤ 64 → All ListFits ls → Leads m peers (drafted (length (done ++ ls)) (done ++ ls)) rest e → Leads (m + length ls) peers (drafted (length done) done) (lists_text (length done) ls ++ rest) e
unfolding lists_text
lists_lead m peers done [] rest e few all leads j h =
    ap (λ xs. items j peers (drafted (length xs) xs) (line rest)) (sym (append-nil done)) ∙ leads j (omega arith)
lists_lead m peers done (l ∷ ls) rest e few all leads zero h = absurd (omega arith)
lists_lead m peers done (l ∷ ls) rest e few all leads (suc j) h =
    let size = length_push done l in
    let one : suc (length done) ≡ length (done ++ (l ∷ [])) = omega arith in
    let next-number : length done + 1 ≡ length (done ++ (l ∷ [])) = omega arith in
    let joined = append_assoc done (l ∷ []) ls in
    ap (λ t. items (suc j) peers (drafted (length done) done) (line t)) (append_assoc (list_text (length done) l) (lists_text (length done + 1) ls) rest)
    ∙ one_list j peers done l (lists_text (length done + 1) ls ++ rest) (omega arith) all.0
    ∙ ap (λ n. items j peers (drafted n (done ++ (l ∷ []))) (line (lists_text (length done + 1) ls ++ rest))) one
    ∙ ap (λ n. items j peers (drafted (length (done ++ (l ∷ []))) (done ++ (l ∷ []))) (line (lists_text n ls ++ rest))) next-number
    ∙ lists_lead m peers (done ++ (l ∷ [])) ls rest e (omega arith) all.1 (subst (λ xs. Leads m peers (drafted (length xs) xs) rest e) (sym joined) leads) j (omega arith)

peer_read : (peers : ℕ) (direction : Direction) (policies : List (Option (List Written))) (n : ℕ) (rest : List ℕ) → n < peers → n < 64 → get_or policies (place_of direction n) None ≡ None → Stops rest → peer peers direction policies (behind (decimal n ++ rest)) ≡ Got (place_of direction n) (behind rest)
peer_read peers direction policies n rest known small free s =
    let within : n < min peers 64 = omega arith in
    ap
    (λ x. next x (λ w r. or_stop (number_of w.1) (λ m. cond (ltb m (min peers 64) && not (is_some (get_or policies (place_of direction m) None))) (Got (place_of direction m) r) (Stop w.0 awaited.Peer)) (Stop w.0 awaited.Peer)))
    (word_read awaited.Peer (decimal n) rest (decimal_nonempty n (omega arith)) (plain_decimal n (omega arith)) s)
    ∙ ap (λ o. or_stop o (λ m. cond (ltb m (min peers 64) && not (is_some (get_or policies (place_of direction m) None))) (Got (place_of direction m) (behind rest)) (Stop 0 awaited.Peer)) (Stop 0 awaited.Peer)) (number_decimal n (omega arith))
    ∙ cond-true (ltb n (min peers 64) && not (is_some (get_or policies (place_of direction n) None))) _ _ (and_from (ltb n (min peers 64)) _ (lt-ltb n (min peers 64) within) (ap (λ o. not (is_some o)) free))

module _ (peers : ℕ) (count : ℕ) (few : count ≤ 64) (lists : List (List Prefix)) where
  abbrev draft : List (Option (List Written)) → ℕ → Draft
  draft policies clauses = record { names = names_below count; lists = lists; policies = policies; count = clauses }

  abbrev opened : Direction → List (Option (List Written)) → ℕ → ℕ → Source → Reading Draft
  opened direction policies before place r =
      next (opens r) (λ _ r₂. next (clauses (min 256 (4096 - before)) (names_below count) true [] r₂) (λ cs r₃. Got (with_policy place cs (draft policies before)) r₃))

  policy_read : (direction : Direction) (policies : List (Option (List Written))) (before n : ℕ) (cs : List Written) (rest : List ℕ) → n < 64 → PolicyFits count peers n cs → before + length cs ≤ 4096 → get_or policies (place_of direction n) None ≡ None → texts.policy_text peers direction (draft policies before) (behind ((decimal n ++ (codes " {" ++ (line_end ++ (clauses_text cs ++ (codes "}" ++ line_end))))) ++ rest)) ≡ Got (with_policy (place_of direction n) cs (draft policies before)) (line rest)
  unfolding plain
  policy_read direction policies before n cs rest small h room free =
      let d : Draft = draft policies before in
      let within : length cs ≤ min 256 (4096 - before) = omega (arith, h.few) in
      ap (λ t. texts.policy_text peers direction d (behind t)) (append_assoc (decimal n) (codes " {" ++ (line_end ++ (clauses_text cs ++ (codes "}" ++ line_end)))) rest)
      ∙ ap (λ t. texts.policy_text peers direction d (behind (decimal n ++ (codes " {" ++ (line_end ++ t))))) (append_assoc (clauses_text cs) (codes "}" ++ line_end) rest)
      ∙ ap (λ x. next x (opened direction policies before)) (peer_read peers direction policies n (codes " {" ++ (line_end ++ (clauses_text cs ++ (codes "}" ++ (line_end ++ rest))))) h.known small free blank_stops)
      ∙ ap (λ x. next x (λ cs r₃. Got (with_policy (place_of direction n) cs d) r₃)) (clauses_read_lem count few (min 256 (4096 - before)) true [] cs rest within h.all)

  item_read : (direction : Direction) (policies : List (Option (List Written))) (before n j : ℕ) (cs : List Written) (rest : List ℕ) → n < 64 → PolicyFits count peers n cs → before + length cs ≤ 4096 → get_or policies (place_of direction n) None ≡ None → items (suc j) peers (draft policies before) (line (policy_text direction n (Some cs) ++ rest)) ≡ items j peers (with_policy (place_of direction n) cs (draft policies before)) (line rest)
  unfolding plain items
  item_read Import policies before n j cs rest small h room free = ap (λ x. next x (λ e r. items j peers e r)) (policy_read Import policies before n cs rest small h room free)
  item_read Export policies before n j cs rest small h room free = ap (λ x. next x (λ e r. items j peers e r)) (policy_read Export policies before n cs rest small h room free)

abbrev clauses_of : Option (List Written) → ℕ
clauses_of None = 0
clauses_of (Some cs) = length cs

-- how many clauses the policies have
unfoldable clause_count : List (Option (List Written)) → ℕ
clause_count [] = 0
clause_count (p ∷ ps) = clauses_of p + clause_count ps

count_append : (xs ys : List (Option (List Written))) → clause_count (xs ++ ys) ≡ clause_count xs + clause_count ys
unfolding clause_count
count_append [] ys = omega arith
count_append (x ∷ xs) ys = let rest = count_append xs ys in omega arith

-- a clause takes at least 16 bytes, so a text of 65,536 bytes has at most 4,096
action_size : (a : Action) → 2 ≤ length (action_text a)
action_size an_action.Accept = omega arith
action_size an_action.Reject = omega arith
action_size (an_action.SetLocalPref n) = omega arith
action_size (an_action.SetMed n) = omega arith
action_size (an_action.AddCommunity n) = omega arith
action_size (an_action.RemoveCommunity n) = omega arith
action_size (an_action.Prepend asn times) = omega arith

clause_size : (c : Written) → 16 ≤ length (clause_text c)
clause_size c =
    omega
    (arith, action_size c.action, length-append (parts_text [] c.parts) (codes " then " ++ (action_text c.action ++ line_end)), length-append (action_text c.action) line_end)

clauses_size : (cs : List Written) → 16 * length cs ≤ length (clauses_text cs)
clauses_size [] = omega arith
clauses_size (c ∷ cs) = let rest = clauses_size cs in omega (arith, clause_size c, length-append (clause_text c) (clauses_text cs))

policy_size : (direction : Direction) (n : ℕ) (o : Option (List Written)) → 16 * clauses_of o ≤ length (policy_text direction n o)
policy_size direction n None = omega arith
policy_size direction n (Some cs) =
    let ending : List ℕ = codes "}" ++ line_end in
    omega
    (arith, clauses_size cs, length-append (clauses_text cs) ending, length-append (decimal n) (codes " {" ++ (line_end ++ (clauses_text cs ++ ending))), length-append (direction_text direction) (decimal n ++ (codes " {" ++ (line_end ++ (clauses_text cs ++ ending)))))

module _ (peers : ℕ) (c : Content) (fits : Fits peers c) (short : length (printed c) ≤ 65536) where
  -- the policies at the places below n, and none yet at the others
  filled : ℕ → List (Option (List Written))
  filled n = take n c.policies ++ replicate (128 - n) None

  placed : ℕ → Draft
  placed n = record { names = names_below (length c.lists); lists = c.lists; policies = filled n; count = clause_count (take n c.policies) }

  abbrev at : ℕ → Option (List Written)
  at n = get_or c.policies n None

  -- what is free from n on
  free_more : (n : ℕ) → n < 128 → replicate {A = Option (List Written)} (128 - n) None ≡ None ∷ replicate (128 - (n + 1)) None
  free_more n h = let one : 128 - n ≡ suc (128 - (n + 1)) = omega arith in ap (λ k. replicate {A = Option (List Written)} k None) one

  front : (n : ℕ) → n < 128 → length (take n c.policies) ≡ n
  front n h = length-take-le n c.policies (omega (arith, fits.row))

  filled_is : (n : ℕ) → n < 128 → filled n ≡ take n c.policies ++ (None ∷ replicate (128 - (n + 1)) None)
  unfolding filled
  filled_is n h = ap (λ xs. take n c.policies ++ xs) (free_more n h)

  filled_more : (n : ℕ) → n < 128 → filled (n + 1) ≡ take n c.policies ++ (at n ∷ replicate (128 - (n + 1)) None)
  unfolding filled
  filled_more n h =
      ap (λ xs. xs ++ replicate (128 - (n + 1)) None) (take_more c.policies n None (omega (arith, fits.row))) ∙ append_assoc (take n c.policies) (at n ∷ []) (replicate (128 - (n + 1)) None)

  free : (n : ℕ) → n < 128 → get_or (filled n) n None ≡ None
  free n h = ap (λ xs. get_or xs n None) (filled_is n h) ∙ get_or_at (take n c.policies) None (replicate (128 - (n + 1)) None) None n (front n h)

  set_more : (n : ℕ) (cs : List Written) → n < 128 → at n ≡ Some cs → set (filled n) n (Some cs) ≡ filled (n + 1)
  set_more n cs h e =
      ap (λ xs. set xs n (Some cs)) (filled_is n h)
      ∙ set_at (take n c.policies) None (replicate (128 - (n + 1)) None) (Some cs) n (front n h)
      ∙ ap (λ o. take n c.policies ++ (o ∷ replicate (128 - (n + 1)) None)) (sym e)
      ∙ sym (filled_more n h)

  none_more : (n : ℕ) → n < 128 → at n ≡ None → filled n ≡ filled (n + 1)
  none_more n h e = filled_is n h ∙ ap (λ o. take n c.policies ++ (o ∷ replicate (128 - (n + 1)) None)) (sym e) ∙ sym (filled_more n h)

  count_more : (n : ℕ) → n < 128 → clause_count (take (n + 1) c.policies) ≡ clause_count (take n c.policies) + clauses_of (at n)
  unfolding clause_count
  count_more n h =
      let one = count_append (take n c.policies) (at n ∷ []) in
      ap clause_count (take_more c.policies n None (omega (arith, fits.row))) ∙ omega arith

  none_placed : (n : ℕ) → n < 128 → at n ≡ None → placed n ≡ placed (n + 1)
  unfolding placed
  none_placed n h e =
      let same : clause_count (take n c.policies) ≡ clause_count (take (n + 1) c.policies) = omega (arith, count_more n h, ap clauses_of e) in
      λ i. record { names = names_below (length c.lists); lists = c.lists; policies = none_more n h e i; count = same i }

  some_placed : (n : ℕ) (cs : List Written) → n < 128 → at n ≡ Some cs → with_policy n cs (placed n) ≡ placed (n + 1)
  unfolding placed
  some_placed n cs h e =
      let same : clause_count (take n c.policies) + length cs ≡ clause_count (take (n + 1) c.policies) = omega (arith, count_more n h, ap clauses_of e) in
      λ i. record { names = names_below (length c.lists); lists = c.lists; policies = set_more n cs h e i; count = same i }

  place_low : (direction : Direction) (n : ℕ) → n < 64 → place_of direction n < 128
  place_low Import n h = omega arith
  place_low Export n h = omega arith

  place_more : (direction : Direction) (n : ℕ) → place_of direction n + 1 ≡ place_of direction (suc n)
  place_more Import n = omega arith
  place_more Export n = omega arith

  policies_size : (direction : Direction) (n : ℕ) → n ≤ 64 → 16 * clause_count (take (place_of direction n) c.policies) ≤ 16 * clause_count (take (place_of direction 0) c.policies) + length (policies_text direction n c)
  unfolding policies_text
  policies_size direction zero h = omega arith
  policies_size direction (suc n) h =
      let place : ℕ = place_of direction n in
      let before = policies_size direction n (omega arith) in
      let text : List ℕ = policy_text direction n (at place) in
      let more = count_more place (place_low direction n (omega arith)) in
      let here = ap (λ k. clause_count (take k c.policies)) (place_more direction n) in
      let size = policy_size direction n (at place) in
      let both = length-append (policies_text direction n c) text in
      omega arith

  count_few : (n : ℕ) → clause_count (take n c.policies) ≤ 4096
  unfolding clause_count
  count_few n =
      let imports = policies_size Import 64 (omega arith) in
      let exports = policies_size Export 64 (omega arith) in
      let all = ap clause_count (take_all 128 c.policies (omega (arith, fits.row))) in
      let both = sym (count_append (take n c.policies) (drop n c.policies)) ∙ ap clause_count (take-append-drop n c.policies) in
      omega (arith, length-append (lists_text 0 c.lists) (policies_text Import 64 c ++ policies_text Export 64 c), length-append (policies_text Import 64 c) (policies_text Export 64 c))

  some_policy : (m : ℕ) (direction : Direction) (n j : ℕ) (rest : List ℕ) (e : Draft) (cs : List Written) → n < 64 → at (place_of direction n) ≡ Some cs → items j peers (placed (place_of direction (suc n))) (line rest) ≡ Got e (Ended 0) → items (suc j) peers (placed (place_of direction n)) (line (policy_text direction n (Some cs) ++ rest)) ≡ Got e (Ended 0)
  unfolding placed
  some_policy m direction n j rest e cs h is leads =
      let place : ℕ = place_of direction n in
      let low = place_low direction n h in
      let room : clause_count (take place c.policies) + length cs ≤ 4096 = omega (arith, count_more place low, count_few (place + 1), ap clauses_of is) in
      item_read peers (length c.lists) fits.few_lists c.lists direction (filled place) (clause_count (take place c.policies)) n j cs rest h (fits.policies direction n cs h is) room (free place low)
      ∙ ap (λ d. items j peers d (line rest)) (some_placed place cs low is ∙ ap placed (place_more direction n))
      ∙ leads

  one_policy : (m : ℕ) (direction : Direction) (n : ℕ) (rest : List ℕ) (e : Draft) (o : Option (List Written)) → n < 64 → at (place_of direction n) ≡ o → Leads m peers (placed (place_of direction (suc n))) rest e → Leads (m + 1) peers (placed (place_of direction n)) (policy_text direction n o ++ rest) e
  one_policy m direction n rest e None h is leads j l =
      ap (λ d. items j peers d (line rest)) (none_placed (place_of direction n) (place_low direction n h) is ∙ ap placed (place_more direction n)) ∙ leads j (omega arith)
  one_policy m direction n rest e (Some cs) h is leads zero l = absurd (omega arith)
  one_policy m direction n rest e (Some cs) h is leads (suc j) l = some_policy m direction n j rest e cs h is (leads j (omega arith))

  policies_lead : (direction : Direction) (n m : ℕ) (rest : List ℕ) (e : Draft) → n ≤ 64 → Leads m peers (placed (place_of direction n)) rest e → Leads (m + n) peers (placed (place_of direction 0)) (policies_text direction n c ++ rest) e
  unfolding policies_text
  policies_lead direction zero m rest e h leads j l = leads j (omega arith)
  policies_lead direction (suc n) m rest e h leads j l =
      let text : List ℕ = policy_text direction n (at (place_of direction n)) in
      ap (λ t. items j peers (placed (place_of direction 0)) (line t)) (append_assoc (policies_text direction n c) text rest)
      ∙ policies_lead direction n (m + 1) (text ++ rest) e (omega arith) (one_policy m direction n rest e (at (place_of direction n)) (omega arith) refl leads) j (omega arith)

  -- all policies are placed
  all_placed : filled 128 ≡ c.policies
  unfolding filled
  all_placed = append-nil (take 128 c.policies) ∙ take_all 128 c.policies (omega (arith, fits.row))

  text_leads : Leads (128 + length c.lists) peers empty (printed c) (placed 128)
  unfolding placed filled names_below clause_count
  text_leads j l =
      let exports = policies_lead Export 64 0 [] (placed 128) (omega arith) (ends peers (placed 128)) in
      let imports = policies_lead Import 64 64 (policies_text Export 64 c ++ []) (placed 128) (omega arith) exports in
      ap (λ t. items j peers empty (line (lists_text 0 c.lists ++ (policies_text Import 64 c ++ t)))) (sym (append-nil (policies_text Export 64 c)))
      ∙ lists_lead 128 peers [] c.lists (policies_text Import 64 c ++ (policies_text Export 64 c ++ [])) (placed 128) (omega (arith, fits.few_lists)) fits.lists imports j l

  read_back : outcome (Got (placed 128) (Ended 0)) ≡ Read c
  unfolding placed
  read_back = λ i. Read (record { lists = c.lists; policies = all_placed i })

-- what is read without places is read
sure : (o : Outcome) (c : Content) → placeless o ≡ Read c → o ≡ Read c
sure (Read d) c e = e
sure (Refused at a) c e = let z : ◌≡◌ {A = ℕ} 0 1 = cc in absurd (omega arith)

back : (peers : ℕ) (c : Content) → Fits peers c → length (printed c) ≤ 65536 → meaning peers (printed c) ≡ Read c
back peers c fits short =
    let few = fits.few_lists in
    cond-true (leb (length (printed c)) 65536) _ _ (le-leb (length (printed c)) 65536 short)
    ∙ sure (outcome (items 192 peers empty (tokens (printed c)))) c
    (sym (items_blind 192 peers empty (tokens (printed c)))
    ∙ ap (λ s. outcome (items 192 peers empty s)) (unplaced_tokens (printed c))
    ∙ ap outcome (text_leads peers c fits short 192 (omega arith))
    ∙ read_back peers c fits short)

pub round_trip : RoundTrip
round_trip = record { back = back; fitting = fitting; again = λ peers text c e short. back peers c (fitting peers text c e) short }

pub anew : (peers : ℕ) (text bytes : List ℕ) (c : Content) → meaning peers text ≡ Read c → bytes ≡ printed c → Reprinted peers text bytes c
anew peers text bytes c e b = record {
  read = e;
  printed_anew = b;
  same = λ short. ap (meaning peers) b ∙ back peers c (fitting peers text c e) (subst (λ bs. length bs ≤ 65536) b short) ∙ sym e;
}
