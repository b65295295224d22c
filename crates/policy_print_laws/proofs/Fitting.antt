-- What is read is within the limits. Assumes nothing.
use Rattle.std.proofs.Common.{◌≡◌, ℕ, zero, suc, ◌+◌, ◌-◌, ◌*◌, ◌^◌, ◌<◌, ◌≤◌, min, Bool, true, false, cond, not, ◌&&◌, ◌||◌, ltb, leb, List, [], ◌∷◌, ◌++◌, length, get_or, set, replicate, is_some, Some, None, codes, Option, sym, refl, ap, ◌∙◌, subst, ⊎_elim, arith, length-set}
use Rattle.policy.specs.declared.Action.TheVariants as an_action
use Rattle.policy.specs.declared.Part.{Part}
use Rattle.policy.specs.declared.Test.{Test}
use Rattle.policy.specs.declared.Test.TheVariants as a_test
use Rattle.policy_clauses.specs.Reading.{Reading, Got, Stop, Written, action_at, action_of, clause, condition, index_from, index_of, joined, list_name, next, number, on_kind, on_word, or_stop, part, part_at, parts, range_test, test_at, times, word}
use Rattle.policy_clauses.specs.declared.Awaited.{Awaited}
use Rattle.policy_clauses.specs.declared.Awaited.TheVariants as awaited
use Rattle.policy_items.specs.Items.{clauses, comma, list_head, listed, opens, prefix, prefix_list, prefixes, start_of, started}
use Rattle.policy_tables.specs.Texts.{Content, Draft, Outcome, Read, Refused, empty, item, item_text, items, meaning, nothing, outcome, peer, place_of, with_list, with_policy}
use Rattle.policy_tables.specs.Texts as texts
use Rattle.policy_tables.specs.declared.Direction.{Direction}
use Rattle.policy_tables.specs.declared.Direction.TheVariants.{Import, Export}
use Rattle.policy_words.specs.Words.{action_word, address_of, and_then, checked, if_done, is_ascii, item_word, joint_word, leading, leading_from, number_of, octet, prefix_of, range_word, test_word}
use Rattle.policy_words.specs.declared.ActionWord.{ActionWord}
use Rattle.policy_words.specs.declared.ActionWord.TheVariants as action
use Rattle.policy_words.specs.declared.ItemWord.{ItemWord}
use Rattle.policy_words.specs.declared.ItemWord.TheVariants as an_item_word
use Rattle.policy_words.specs.declared.JointWord.{JointWord}
use Rattle.policy_words.specs.declared.JointWord.TheVariants as joint
use Rattle.policy_words.specs.declared.RangeWord.{RangeWord}
use Rattle.policy_words.specs.declared.RangeWord.TheVariants as range
use Rattle.policy_words.specs.declared.TestWord.{TestWord}
use Rattle.policy_words.specs.declared.TestWord.TheVariants as test
use Rattle.prefix.specs.Prefix.{Prefix, is_prefix}
use Rattle.std.proofs.lemmas.List.{get_or-replicate, get_or-set_other, get_or-set_same, length_push, length-replicate}
use Rattle.std.proofs.lemmas.Bool.{and_parts, cases_eq, cond_both, leb-true, ltb-true}
use Rattle.std.specs.Char.{is_ascii_digit}
use Rattle.std.specs.List.{AllByRecursion as All}
use Rattle.std.specs.Str.{bytes_eq}
use Rattle.text_tokens.specs.declared.Sign.TheVariants as a_sign
use Rattle.text_tokens.specs.Tokens.{Kind, Word, Sign, Token, Source, Ended, More, tokens}
use Rattle.policy_print_laws.specs.Limits.{ActionFits, ClauseFits, Fits, IsPrefix, ListFits, PartFits, PolicyFits, TestFits}
use Rattle.policy_print_laws.proofs.Spelling.{all_append, all_weaker}

-- P holds of the value, if there is one
abbrev Holds : {A : Type 0} → (A → Type 0) → Option A → Type 0
Holds P None = Unit {0}
Holds P (Some x) = P x

abbrev Yields : {A : Type 0} → (A → Type 0) → Reading A → Type 0
Yields P (Got x rest) = P x
Yields P (Stop at a) = Unit {0}

Anything : {A : Type 0} → A → Type 0
Anything x = Unit {0}

anyway : {A : Type 0} (x : Reading A) → Yields Anything x
unfolding Anything
anyway (Got x rest) = tt
anyway (Stop at a) = tt

after : {A B : Type 0} (P : A → Type 0) (Q : B → Type 0) (x : Reading A) (f : A → Source → Reading B) → Yields P x → ((v : A) (r : Source) → P v → Yields Q (f v r)) → Yields Q (next x f)
after P Q (Got v r) f h g = g v r h
after P Q (Stop at a) f h g = tt

either : {A B : Type 0} (P : A → Type 0) (Q : B → Type 0) (o : Option A) (f : A → Reading B) (stop : Reading B) → Holds P o → ((v : A) → P v → Yields Q (f v)) → Yields Q stop → Yields Q (or_stop o f stop)
either P Q None f stop h g s = s
either P Q (Some v) f stop h g s = g v h

and_then_lem : {A B : Type 0} (P : A → Type 0) (Q : B → Type 0) (o : Option A) (f : A → Option B) → Holds P o → ((v : A) → P v → Holds Q (f v)) → Holds Q (and_then o f)
and_then_lem P Q None f h g = tt
and_then_lem P Q (Some v) f h g = g v h

any_option : {A : Type 0} (o : Option A) → Holds Anything o
unfolding Anything
any_option None = tt
any_option (Some x) = tt

if_so : {B : Type 0} (Q : B → Type 0) (b : Bool) (x y : Reading B) → (b ≡ true → Yields Q x) → Yields Q y → Yields Q (cond b x y)
if_so Q b x y h g = cond_both b x y (Yields Q) h (λ _. g)

-- numbers have 32 bits
abbrev Small : ℕ → Type 0
Small n = n < 2 ^ 32

abbrev SmallFirst : ℕ × List ℕ → Type 0
SmallFirst x = x.0 < 2 ^ 32

leading_small : (n : ℕ) (bs : List ℕ) → n < 2 ^ 32 → Holds SmallFirst (leading_from n bs)
unfolding leading_from
leading_small n [] h = h
leading_small n (b ∷ bs) h =
    let m : ℕ = n * 10 + (b - 48) in
    cond_both (is_ascii_digit b) (cond (ltb m (2 ^ 32)) (leading_from m bs) None) (Some (n, b ∷ bs)) (Holds SmallFirst)
    (λ _. cond_both (ltb m (2 ^ 32)) (leading_from m bs) None (Holds SmallFirst) (λ e. leading_small m bs (ltb-true m (2 ^ 32) e)) (λ _. tt))
    (λ _. h)

first_small : (w : List ℕ) → Holds SmallFirst (leading w)
first_small [] = tt
first_small (b ∷ bs) = cond_both (is_ascii_digit b) (leading_from 0 (b ∷ bs)) None (Holds SmallFirst) (λ _. leading_small 0 (b ∷ bs) (omega arith)) (λ _. tt)

done_small : (x : ℕ × List ℕ) → SmallFirst x → Holds Small (if_done x)
done_small (n, []) h = h
done_small (n, b ∷ bs) h = tt

number_of_small : (w : List ℕ) → Holds Small (number_of w)
number_of_small w = and_then_lem SmallFirst Small (leading w) if_done (first_small w) done_small

number_small : (a : Awaited) (s : Source) → Yields Small (number a s)
number_small a s = after Anything Small (word a s) (λ w r. or_stop (number_of w.1) (λ n. Got n r) (Stop w.0 a)) (anyway (word a s)) (λ w r _. either Small Small (number_of w.1) (λ n. Got n r) (Stop w.0 a) (number_of_small w.1) (λ n h. h) tt)

-- lists are among those above
index_low : (i n : ℕ) (name : List ℕ) (names : List (List ℕ)) → i + length names ≡ n → Holds (λ j. j < n) (index_from i name names)
index_low i n name [] e = tt
index_low i n name (x ∷ xs) e = cond_both (bytes_eq name x) (Some i) (index_from (i + 1) name xs) (Holds (λ j. j < n)) (λ _. omega arith) (λ _. index_low (i + 1) n name xs (omega arith))

module _ (names : List (List ℕ)) where
  Listed : ℕ → Type 0
  Listed i = i < length names

  name_low : (s : Source) → Yields Listed (list_name names s)
  unfolding Listed
  name_low s =
      after Anything Listed (word awaited.ListName s) (λ w r. or_stop (index_of w.1 names) (λ i. Got i r) (Stop w.0 awaited.ListName)) (anyway (word awaited.ListName s))
      (λ w r _. either Listed Listed (index_of w.1 names) (λ i. Got i r) (Stop w.0 awaited.ListName) (index_low 0 (length names) w.1 names (omega arith)) (λ i h. h) tt)

  Tested : Test → Type 0
  Tested t = TestFits (length names) t

  range_fits : (at : ℕ) (k : Option RangeWord) (s : Source) → Yields Tested (range_test names at k s)
  unfolding Tested Listed
  range_fits at (Some range.In) s = after Listed Tested (list_name names s) (λ i r. Got (a_test.PrefixIn i) r) (name_low s) (λ i r h. h)
  range_fits at (Some range.Within) s = after Listed Tested (list_name names s) (λ i r. Got (a_test.PrefixWithin i) r) (name_low s) (λ i r h. h)
  range_fits at None s = tt

  test_fits : (at : ℕ) (k : Option TestWord) (s : Source) → Yields Tested (test_at names at k s)
  unfolding Tested
  test_fits at (Some test.Not) s = tt
  test_fits at (Some test.Any) s = tt
  test_fits at (Some test.Range) s = after Anything Tested (word awaited.InOrWithin s) (λ w r. range_test names w.0 (range_word w.1) r) (anyway (word awaited.InOrWithin s)) (λ w r _. range_fits w.0 (range_word w.1) r)
  test_fits at (Some test.Passes) s = after Small Tested (number awaited.Number s) (λ n r. Got (a_test.Passes n) r) (number_small awaited.Number s) (λ n r h. h)
  test_fits at (Some test.Marked) s = after Small Tested (number awaited.Number s) (λ n r. Got (a_test.HasCommunity n) r) (number_small awaited.Number s) (λ n r h. h)
  test_fits at (Some test.Longer) s = after Small Tested (number awaited.Number s) (λ n r. Got (a_test.LongerThan n) r) (number_small awaited.Number s) (λ n r h. h)
  test_fits at None s = tt

  abbrev Parted : Part → Type 0
  Parted p = PartFits (length names) p

  with : (negated : Bool) (x : Reading Test) → Yields Tested x → Yields Parted (next x (λ t r. Got (record { negated = negated; test = t }) r))
  unfolding Tested
  with negated x h = after Tested Parted x (λ t r. Got (record { negated = negated; test = t }) r) h (λ t r g. g)

  part_at_fits : (negated : Bool) (at : ℕ) (k : Option TestWord) (s : Source) (again : Reading Part) → Yields Parted again → Yields Parted (part_at names negated at k s again)
  part_at_fits negated at (Some test.Not) s again h = h
  part_at_fits negated at (Some test.Any) s again h = with negated (test_at names at (Some test.Any) s) (test_fits at (Some test.Any) s)
  part_at_fits negated at (Some test.Range) s again h = with negated (test_at names at (Some test.Range) s) (test_fits at (Some test.Range) s)
  part_at_fits negated at (Some test.Passes) s again h = with negated (test_at names at (Some test.Passes) s) (test_fits at (Some test.Passes) s)
  part_at_fits negated at (Some test.Marked) s again h = with negated (test_at names at (Some test.Marked) s) (test_fits at (Some test.Marked) s)
  part_at_fits negated at (Some test.Longer) s again h = with negated (test_at names at (Some test.Longer) s) (test_fits at (Some test.Longer) s)
  part_at_fits negated at None s again h = tt

on_kind_lem : {B : Type 0} (Q : B → Type 0) (a : Awaited) (at : ℕ) (k : Kind) (f : List ℕ → Reading B) → ((w : List ℕ) → Yields Q (f w)) → Yields Q (on_kind a at k f)
on_kind_lem Q a at (Word w) f h = if_so Q (is_ascii w) (f w) (Stop at a) (λ _. h w) tt
on_kind_lem Q a at (Sign s) f h = tt

on_word_lem : {B : Type 0} (Q : B → Type 0) (a : Awaited) (t : Token) (f : List ℕ → Reading B) → ((w : List ℕ) → Yields Q (f w)) → Yields Q (on_word a t f)
on_word_lem Q a t f h = cond_both t.fresh (Stop t.at a) (on_kind a t.at t.kind f) (Yields Q) (λ _. tt) (λ _. on_kind_lem Q a t.at t.kind f h)

-- between 1 and n values, of each of which P holds
record Row {A : Type 0} (P : A → Type 0) (n : ℕ) (xs : List A) : Type 0 where
  some : 1 ≤ length xs
  few : length xs ≤ n
  all : All P xs

row_push : {A : Type 0} (P : A → Type 0) (n : ℕ) (before : List A) (x : A) → length before + 1 ≤ n → All P before → P x → Row P n (before ++ (x ∷ []))
row_push P n before x l all h = let size = length_push before x in record { some = omega arith; few = omega arith; all = all_append P before (x ∷ []) all (h, tt) }

module _ (names : List (List ℕ)) where
  abbrev P : Part → Type 0
  P p = PartFits (length names) p

  part_fits : (negated : Bool) (s : Source) → Yields P (part names negated s)
  unfolding part
  part_fits negated (Ended at) = tt
  part_fits negated (More t rest) =
      on_word_lem P awaited.Test t (λ w. part_at names negated t.at (test_word w) rest (part names (not negated) rest)) (λ w. part_at_fits names negated t.at (test_word w) rest (part names (not negated) rest) (part_fits (not negated) rest))

  joined_fits : (n at : ℕ) (w : Option JointWord) (ps : List Part) (r : Source) (more : Reading (List Part)) → Row P n ps → Yields (Row P n) more → Yields (Row P n) (joined at w ps r more)
  joined_fits n at (Some joint.And) ps r more h g = g
  joined_fits n at (Some joint.Then) ps r more h g = h
  joined_fits n at None ps r more h g = tt

  parts_fit : (n k : ℕ) (before : List Part) (s : Source) → length before + suc k ≤ n → All P before → Yields (Row P n) (parts k names before s)
  unfolding parts
  parts_fit n zero before s l all =
      after P (Row P n) (part names false s) (λ p r. next (word awaited.AndOrThen r) (λ w r₂. joined w.0 (joint_word w.1) (before ++ (p ∷ [])) r₂ (Stop w.0 awaited.Then))) (part_fits false s)
      (λ p r h. after Anything (Row P n) (word awaited.AndOrThen r) (λ w r₂. joined w.0 (joint_word w.1) (before ++ (p ∷ [])) r₂ (Stop w.0 awaited.Then)) (anyway (word awaited.AndOrThen r))
      (λ w r₂ _. joined_fits n w.0 (joint_word w.1) (before ++ (p ∷ [])) r₂ (Stop w.0 awaited.Then) (row_push P n before p (omega arith) all h) tt))
  parts_fit n (suc k) before s l all =
      after P (Row P n) (part names false s) (λ p r. next (word awaited.AndOrThen r) (λ w r₂. joined w.0 (joint_word w.1) (before ++ (p ∷ [])) r₂ (parts k names (before ++ (p ∷ [])) r₂))) (part_fits false s)
      (λ p r h.
      let row = row_push P n before p (omega arith) all h in
      let size = length_push before p in
      after Anything (Row P n) (word awaited.AndOrThen r) (λ w r₂. joined w.0 (joint_word w.1) (before ++ (p ∷ [])) r₂ (parts k names (before ++ (p ∷ [])) r₂)) (anyway (word awaited.AndOrThen r))
      (λ w r₂ _. joined_fits n w.0 (joint_word w.1) (before ++ (p ∷ [])) r₂ (parts k names (before ++ (p ∷ [])) r₂) row (parts_fit n k (before ++ (p ∷ [])) r₂ (omega arith) row.all)))

-- actions
abbrev Eight : ℕ → Type 0
Eight n = n ≤ 8

abbrev counted : ℕ × List ℕ → Source → Reading ℕ
counted v r = or_stop (number_of v.1) (λ n. cond (leb n 8) (Got n r) (Stop v.0 awaited.Count)) (Stop v.0 awaited.Count)

counted_fits : (v : ℕ × List ℕ) (r : Source) → Yields Eight (counted v r)
counted_fits v r =
    either Anything Eight (number_of v.1) (λ n. cond (leb n 8) (Got n r) (Stop v.0 awaited.Count)) (Stop v.0 awaited.Count) (any_option (number_of v.1))
    (λ n _. if_so Eight (leb n 8) (Got n r) (Stop v.0 awaited.Count) (λ e. leb-true n 8 e) tt) tt

times_fit : (s : Source) → Yields Eight (times s)
times_fit s =
    after Anything Eight (word awaited.Times s) (λ w r. cond (bytes_eq w.1 (codes "times")) (next (word awaited.Count r) counted) (Stop w.0 awaited.Times)) (anyway (word awaited.Times s))
    (λ w r _. if_so Eight (bytes_eq w.1 (codes "times")) (next (word awaited.Count r) counted) (Stop w.0 awaited.Times)
    (λ _. after Anything Eight (word awaited.Count r) counted (anyway (word awaited.Count r)) (λ v r₂ _. counted_fits v r₂)) tt)

action_at_fits : (at : ℕ) (k : Option ActionWord) (s : Source) → Yields ActionFits (action_at at k s)
action_at_fits at (Some action.Take) s = tt
action_at_fits at (Some action.Leave) s = tt
action_at_fits at (Some action.Like) s = after Small ActionFits (number awaited.Number s) (λ n r. Got (an_action.SetLocalPref n) r) (number_small awaited.Number s) (λ n r h. h)
action_at_fits at (Some action.Far) s = after Small ActionFits (number awaited.Number s) (λ n r. Got (an_action.SetMed n) r) (number_small awaited.Number s) (λ n r h. h)
action_at_fits at (Some action.Mark) s = after Small ActionFits (number awaited.Number s) (λ n r. Got (an_action.AddCommunity n) r) (number_small awaited.Number s) (λ n r h. h)
action_at_fits at (Some action.Unmark) s = after Small ActionFits (number awaited.Number s) (λ n r. Got (an_action.RemoveCommunity n) r) (number_small awaited.Number s) (λ n r h. h)
action_at_fits at (Some action.Front) s =
    after Small ActionFits (number awaited.Number s) (λ n r. next (times r) (λ k r₂. Got (an_action.Prepend n k) r₂)) (number_small awaited.Number s)
    (λ n r h. after Eight ActionFits (times r) (λ k r₂. Got (an_action.Prepend n k) r₂) (times_fit r) (λ k r₂ g. (h, g)))
action_at_fits at None s = tt

action_fits : (s : Source) → Yields ActionFits (action_of s)
action_fits s = after Anything ActionFits (word awaited.Action s) (λ w r. action_at w.0 (action_word w.1) r) (anyway (word awaited.Action s)) (λ w r _. action_at_fits w.0 (action_word w.1) r)

-- clauses
module _ (names : List (List ℕ)) where
  abbrev C : Written → Type 0
  C c = ClauseFits (length names) c

  clause_fits : (s : Source) → Yields C (clause names s)
  clause_fits s =
      after (Row (P names) 16) C (condition names s) (λ ps r. next (action_of r) (λ a r₂. Got (record { parts = ps; action = a }) r₂)) (parts_fit names 16 15 [] s (omega arith) tt)
      (λ ps r row. after ActionFits C (action_of r) (λ a r₂. Got (record { parts = ps; action = a }) r₂) (action_fits r)
      (λ a r₂ h. record { some = row.some; few = row.few; parts = row.all; action = h }))

  -- at most n clauses
  record Few (n : ℕ) (cs : List Written) : Type 0 where
    few : length cs ≤ n
    all : All C cs

  started_fits : (n : ℕ) (before : List Written) (k : Kind) (may : Bool) (at : ℕ) (r : Source) (more : Reading (List Written)) → Few n before → Yields (Few n) more → Yields (Few n) (started (start_of k) may at before r more)
  started_fits n before (Word w) may at r more h g =
      cond_both (bytes_eq w (codes "if")) _ _ (λ start. Yields (Few n) (started start may at before r more)) (λ _. if_so (Few n) may more (Stop at awaited.Clause) (λ _. g) tt) (λ _. tt)
  started_fits n before (Sign a_sign.Open) may at r more h g = tt
  started_fits n before (Sign a_sign.Close) may at r more h g = h
  started_fits n before (Sign a_sign.Equals) may at r more h g = tt
  started_fits n before (Sign a_sign.Comma) may at r more h g = tt

  clauses_fit : (n k : ℕ) (first : Bool) (before : List Written) (s : Source) → length before + k ≤ n → All C before → Yields (Few n) (clauses k names first before s)
  unfolding clauses
  clauses_fit n zero first before (Ended at) l all = tt
  clauses_fit n (suc k) first before (Ended at) l all = tt
  clauses_fit n zero first before (More t rest) l all = started_fits n before t.kind (first || t.fresh) t.at rest (Stop t.at awaited.Close) (record { few = omega arith; all = all }) tt
  clauses_fit n (suc k) first before (More t rest) l all =
      started_fits n before t.kind (first || t.fresh) t.at rest (next (clause names rest) (λ c r. clauses k names false (before ++ (c ∷ [])) r)) (record { few = omega arith; all = all })
      (after C (Few n) (clause names rest) (λ c r. clauses k names false (before ++ (c ∷ [])) r) (clause_fits rest)
      (λ c r h. let size = length_push before c in clauses_fit n k false (before ++ (c ∷ [])) r (omega arith) (all_append C before (c ∷ []) all (h, tt))))

-- lists
checked_fits : (a l : ℕ) → Holds IsPrefix (checked a l)
checked_fits a l = cond_both (is_prefix a l) (Some (record { address = a; length = l })) None (Holds IsPrefix) (λ e. e) (λ _. tt)

prefix_of_fits : (w : List ℕ) → Holds IsPrefix (prefix_of w)
prefix_of_fits w =
    and_then_lem Anything IsPrefix (octet 46 w) _ (any_option (octet 46 w)) (λ a _.
    and_then_lem Anything IsPrefix (octet 46 a.1) _ (any_option (octet 46 a.1)) (λ b _.
    and_then_lem Anything IsPrefix (octet 46 b.1) _ (any_option (octet 46 b.1)) (λ c _.
    and_then_lem Anything IsPrefix (octet 47 c.1) _ (any_option (octet 47 c.1)) (λ d _.
    and_then_lem Anything IsPrefix (number_of d.1) _ (any_option (number_of d.1)) (λ l _.
    checked_fits (address_of a.0 b.0 c.0 d.0) l)))))

prefix_fits : (s : Source) → Yields IsPrefix (prefix s)
prefix_fits s =
    after Anything IsPrefix (word awaited.Prefix s) (λ w r. or_stop (prefix_of w.1) (λ p. Got p r) (Stop w.0 awaited.Prefix)) (anyway (word awaited.Prefix s))
    (λ w r _. either IsPrefix IsPrefix (prefix_of w.1) (λ p. Got p r) (Stop w.0 awaited.Prefix) (prefix_of_fits w.1) (λ p h. h) tt)

listed_fits : (n : ℕ) (c : Option (ℕ × Source)) (ps : List Prefix) (r : Source) (more : ℕ → Source → Reading (List Prefix)) → Row IsPrefix n ps → ((at : ℕ) (r₂ : Source) → Yields (Row IsPrefix n) (more at r₂)) → Yields (Row IsPrefix n) (listed c ps r more)
listed_fits n None ps r more h g = h
listed_fits n (Some c) ps r more h g = g c.0 c.1

prefixes_fit : (n k : ℕ) (before : List Prefix) (s : Source) → length before + suc k ≤ n → All IsPrefix before → Yields (Row IsPrefix n) (prefixes k before s)
unfolding prefixes
prefixes_fit n zero before s l all =
    after IsPrefix (Row IsPrefix n) (prefix s) (λ p r. listed (comma r) (before ++ (p ∷ [])) r (λ at r₂. Stop at awaited.ListEnd)) (prefix_fits s)
    (λ p r h. listed_fits n (comma r) (before ++ (p ∷ [])) r (λ at r₂. Stop at awaited.ListEnd) (row_push IsPrefix n before p (omega arith) all h) (λ at r₂. tt))
prefixes_fit n (suc k) before s l all =
    after IsPrefix (Row IsPrefix n) (prefix s) (λ p r. listed (comma r) (before ++ (p ∷ [])) r (λ at r₂. prefixes k (before ++ (p ∷ [])) r₂)) (prefix_fits s)
    (λ p r h.
    let row = row_push IsPrefix n before p (omega arith) all h in
    let size = length_push before p in
    listed_fits n (comma r) (before ++ (p ∷ [])) r (λ at r₂. prefixes k (before ++ (p ∷ [])) r₂) row (λ at r₂. prefixes_fit n k (before ++ (p ∷ [])) r₂ (omega arith) row.all))

list_row : (x : Reading (List Prefix)) → Yields (Row IsPrefix 64) x → Yields ListFits x
list_row (Got ps r) h = record { some = h.some; few = h.few; all = h.all }
list_row (Stop at a) h = tt

list_fits : (s : Source) → Yields ListFits (prefix_list s)
list_fits s = list_row (prefix_list s) (prefixes_fit 64 63 [] s (omega arith) tt)

-- what fits where there are n lists fits where there are more
module _ (n m : ℕ) (more : n ≤ m) where
  test_more : (t : Test) → TestFits n t → TestFits m t
  test_more a_test.Any h = tt
  test_more (a_test.PrefixIn i) h = omega arith
  test_more (a_test.PrefixWithin i) h = omega arith
  test_more (a_test.Passes k) h = h
  test_more (a_test.HasCommunity k) h = h
  test_more (a_test.LongerThan k) h = h

  clause_more : (c : Written) → ClauseFits n c → ClauseFits m c
  clause_more c h = record { some = h.some; few = h.few; parts = all_weaker (PartFits n) (PartFits m) (λ p g. test_more p.test g) c.parts h.parts; action = h.action }

  policy_more : (peers i : ℕ) (cs : List Written) → PolicyFits n peers i cs → PolicyFits m peers i cs
  policy_more peers i cs h = record { known = h.known; few = h.few; all = all_weaker (ClauseFits n) (ClauseFits m) clause_more cs h.all }

-- what was read so far is within the limits
record Good (peers : ℕ) (d : Draft) : Type 0 where
  level : length d.names ≡ length d.lists
  few_lists : length d.lists ≤ 64
  lists : All ListFits d.lists
  row : length d.policies ≡ 128
  policies : (direction : Direction) (i : ℕ) (cs : List Written) → i < 64 → get_or d.policies (place_of direction i) None ≡ Some cs → PolicyFits (length d.lists) peers i cs

module _ (peers : ℕ) where
  with_list_lem : (name : List ℕ) (list : List Prefix) (d : Draft) → Good peers d → length d.lists < 64 → ListFits list → Good peers (with_list name list d)
  with_list_lem name list d g room h =
      let size = length_push d.lists list in
      record {
        level = length_push d.names name ∙ ap (λ n. n + 1) g.level ∙ sym size;
        few_lists = omega arith;
        lists = all_append ListFits d.lists (list ∷ []) g.lists (h, tt);
        row = g.row;
        policies = λ direction i cs l e. policy_more (length d.lists) (length (d.lists ++ (list ∷ []))) (omega arith) peers i cs (g.policies direction i cs l e);
      }

  list_text_good : (at : ℕ) (d : Draft) (s : Source) → Good peers d → Yields (Good peers) (texts.list_text at d s)
  list_text_good at d s g =
      if_so (Good peers) (ltb (length d.lists) 64) (next (list_head d.names s) (λ name r. next (prefix_list r) (λ list r₂. Got (with_list name list d) r₂))) (Stop at awaited.Policy)
      (λ e. after Anything (Good peers) (list_head d.names s) (λ name r. next (prefix_list r) (λ list r₂. Got (with_list name list d) r₂)) (anyway (list_head d.names s))
      (λ name r _. after ListFits (Good peers) (prefix_list r) (λ list r₂. Got (with_list name list d) r₂) (list_fits r)
      (λ list r₂ h. with_list_lem name list d g (ltb-true (length d.lists) 64 e) h)))
      tt

  -- the place of a policy of one of the peers
  record Placed (direction : Direction) (place : ℕ) : Type 0 where
    peer : ℕ
    is : place ≡ place_of direction peer
    known : peer < peers
    low : peer < 64

  abbrev is_free : Direction → List (Option (List Written)) → ℕ → Bool
  is_free direction policies n = ltb n (min peers 64) && not (is_some (get_or policies (place_of direction n) None))

  free_placed : (direction : Direction) (policies : List (Option (List Written))) (n : ℕ) → is_free direction policies n ≡ true → Placed direction (place_of direction n)
  free_placed direction policies n e =
      let within = ltb-true n (min peers 64) (and_parts (ltb n (min peers 64)) (not (is_some (get_or policies (place_of direction n) None))) e).0 in
      record { peer = n; is = refl; known = omega arith; low = omega arith }

  peer_placed : (direction : Direction) (policies : List (Option (List Written))) (s : Source) → Yields (Placed direction) (peer peers direction policies s)
  peer_placed direction policies s =
      after Anything (Placed direction) (word awaited.Peer s) (λ w r. or_stop (number_of w.1) (λ n. cond (is_free direction policies n) (Got (place_of direction n) r) (Stop w.0 awaited.Peer)) (Stop w.0 awaited.Peer)) (anyway (word awaited.Peer s))
      (λ w r _. either Anything (Placed direction) (number_of w.1) (λ n. cond (is_free direction policies n) (Got (place_of direction n) r) (Stop w.0 awaited.Peer)) (Stop w.0 awaited.Peer) (any_option (number_of w.1))
      (λ n _. if_so (Placed direction) (is_free direction policies n) (Got (place_of direction n) r) (Stop w.0 awaited.Peer) (free_placed direction policies n) tt) tt)

  place_low : (direction : Direction) (n : ℕ) → n < 64 → place_of direction n < 128
  place_low Import n h = omega arith
  place_low Export n h = omega arith

  same_place : (direction other : Direction) (i n : ℕ) → i < 64 → n < 64 → place_of direction i ≡ place_of other n → i ≡ n
  same_place Import Import i n h l e = e
  same_place Import Export i n h l e = omega arith
  same_place Export Import i n h l e = omega arith
  same_place Export Export i n h l e = omega arith

  same_some : (o : Option (List Written)) (cs ds : List Written) → o ≡ Some cs → o ≡ Some ds → ds ≡ cs
  same_some o cs ds e f = cc

  with_policy_lem : (direction : Direction) (place : ℕ) (cs : List Written) (d : Draft) → Good peers d → Placed direction place → length cs ≤ 256 → All (ClauseFits (length d.names)) cs → Good peers (with_policy place cs d)
  with_policy_lem direction place cs d g p few all =
      let low : place < length d.policies = omega (arith, p.is, place_low direction p.peer p.low, g.row) in
      let clauses-fit-in : All (ClauseFits (length d.lists)) cs = all_weaker (ClauseFits (length d.names)) (ClauseFits (length d.lists)) (clause_more (length d.names) (length d.lists) (omega (arith, g.level))) cs all in
      let mine : PolicyFits (length d.lists) peers p.peer cs = record { known = p.known; few = few; all = clauses-fit-in } in
      record {
        level = g.level;
        few_lists = g.few_lists;
        lists = g.lists;
        row = length-set d.policies place (Some cs) ∙ g.row;
        policies = λ other i ds l e.
            ⊎_elim
            (λ here.
            let is : get_or (set d.policies place (Some cs)) (place_of other i) None ≡ Some cs = ap (λ k. get_or (set d.policies place (Some cs)) k None) here ∙ get_or-set_same d.policies place (Some cs) None low in
            let number = same_place other direction i p.peer l p.low (here ∙ p.is) in
            let clauses-are = same_some (get_or (set d.policies place (Some cs)) (place_of other i) None) ds cs e is in
            subst (λ k. PolicyFits (length d.lists) peers k ds) (sym number) (subst (λ xs. PolicyFits (length d.lists) peers p.peer xs) clauses-are mine))
            (λ elsewhere. g.policies other i ds l (sym (get_or-set_other d.policies place (place_of other i) (Some cs) None elsewhere) ∙ e))
            (cases_eq (place_of other i) place);
      }

  abbrev clauses_read : Draft → ℕ → Source → Reading Draft
  clauses_read d place r = next (clauses (min 256 (4096 - d.count)) d.names true [] r) (λ cs r₂. Got (with_policy place cs d) r₂)

  policy_text_good : (direction : Direction) (d : Draft) (s : Source) → Good peers d → Yields (Good peers) (texts.policy_text peers direction d s)
  policy_text_good direction d s g =
      after (Placed direction) (Good peers) (peer peers direction d.policies s) (λ place r. next (opens r) (λ _ r₂. clauses_read d place r₂)) (peer_placed direction d.policies s)
      (λ place r p. after Anything (Good peers) (opens r) (λ _ r₂. clauses_read d place r₂) (anyway (opens r))
      (λ _ r₂ _. after (Few d.names 256) (Good peers) (clauses (min 256 (4096 - d.count)) d.names true [] r₂) (λ cs r₃. Got (with_policy place cs d) r₃)
      (clauses_fit d.names 256 (min 256 (4096 - d.count)) true [] r₂ (omega arith) tt)
      (λ cs r₃ f. with_policy_lem direction place cs d g p f.few f.all)))

  item_text_good : (d : Draft) (at : ℕ) (w : Option ItemWord) (s : Source) → Good peers d → Yields (Good peers) (item_text peers d at w s)
  item_text_good d at (Some an_item_word.List) s g = list_text_good at d s g
  item_text_good d at (Some an_item_word.From) s g = policy_text_good Import d s g
  item_text_good d at (Some an_item_word.To) s g = policy_text_good Export d s g
  item_text_good d at None s g = tt

  items_good : (k : ℕ) (d : Draft) (s : Source) → Good peers d → Yields (Good peers) (items k peers d s)
  unfolding items
  items_good zero d (Ended at) g = g
  items_good (suc k) d (Ended at) g = g
  items_good zero d (More t rest) g = tt
  items_good (suc k) d (More t rest) g =
      after (Good peers) (Good peers) (item peers d t rest) (λ e r. items k peers e r)
      (on_kind_lem (Good peers) awaited.Item t.at t.kind (λ w. item_text peers d t.at (item_word w) rest) (λ w. item_text_good d t.at (item_word w) rest g))
      (λ e r h. items_good k e r h)

  none_at : (i : ℕ) (cs : List Written) → i < 128 → get_or {A = Option (List Written)} (replicate 128 None) i None ≡ Some cs → ⊥
  none_at i cs h e = let free = get_or-replicate {A = Option (List Written)} 128 i None None h in let z : ◌≡◌ {A = ℕ} 0 1 = cc in omega arith

  empty_good : Good peers empty
  empty_good = record {
    level = refl;
    few_lists = omega arith;
    lists = tt;
    row = length-replicate {A = Option (List Written)} 128 None;
    policies = λ direction i cs l e. absurd (none_at (place_of direction i) cs (place_low direction i l) e);
  }

  Fitted : Outcome → Type 0
  Fitted (Read c) = Fits peers c
  Fitted (Refused at a) = Unit {0}

  outcome_fits : (x : Reading Draft) → Yields (Good peers) x → Fitted (outcome x)
  unfolding Fitted
  outcome_fits (Got d r) g = record { few_lists = g.few_lists; lists = g.lists; row = g.row; policies = g.policies }
  outcome_fits (Stop at a) g = tt

  meaning_fits : (text : List ℕ) → Fitted (meaning peers text)
  unfolding Fitted
  meaning_fits text =
      cond_both (leb (length text) 65536) (outcome (items 192 peers empty (tokens text))) (Refused 65536 awaited.End) Fitted
      (λ _. outcome_fits (items 192 peers empty (tokens text)) (items_good 192 empty (tokens text) empty_good)) (λ _. tt)

  pub fitting : (text : List ℕ) (c : Content) → meaning peers text ≡ Read c → Fits peers c
  unfolding Fitted
  fitting text c e = subst Fitted e (meaning_fits text)
