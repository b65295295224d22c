-- The grammar of clauses, over the tokens of a text. Assumes nothing.
use Rattle.std.specs.Prelude.{ℕ, zero, suc, Bool, false, cond, not, List, [], ◌∷◌, ◌++◌, Some, None, codes, Option, nat_le}
use Rattle.policy.specs.declared.Action.{Action}
use Rattle.policy.specs.declared.Action.TheVariants as an_action
use Rattle.policy.specs.declared.Part.{Part}
use Rattle.policy.specs.declared.Test.{Test}
use Rattle.policy.specs.declared.Test.TheVariants as a_test
use Rattle.policy_words.specs.declared.ActionWord.{ActionWord}
use Rattle.policy_words.specs.declared.ActionWord.TheVariants as action
use Rattle.policy_words.specs.declared.JointWord.{JointWord}
use Rattle.policy_words.specs.declared.JointWord.TheVariants as joint
use Rattle.policy_words.specs.declared.RangeWord.{RangeWord}
use Rattle.policy_words.specs.declared.RangeWord.TheVariants as range
use Rattle.policy_words.specs.declared.TestWord.{TestWord}
use Rattle.policy_words.specs.declared.TestWord.TheVariants as test
use Rattle.policy_words.specs.Words.{action_word, is_ascii, joint_word, number_of, range_word, test_word}
use Rattle.std.specs.List.{position_from}
use Rattle.std.specs.Str.{bytes_eq}
use Rattle.text_tokens.specs.Tokens.{Kind, Word, Sign, Token, Source, Ended, More}
use Rattle.policy_clauses.specs.declared.Awaited as stored
use Rattle.policy_clauses.specs.declared.Awaited.TheVariants as awaited

-- what comes of reading: a value and the tokens behind it, or the offset of the token that is not what is awaited
pub data Reading (A : Type 0) : Type 0 where
  Got : A → Source → Reading A
  Stop : (at : ℕ) → stored.Awaited → Reading A

-- reading goes on behind what was read; it stops where it stopped
abbrev pub next : {A B : Type 0} → Reading A → (A → Source → Reading B) → Reading B
next (Got x rest) f = f x rest
next (Stop at a) f = Stop at a

-- the value, or a stop
abbrev pub or_stop : {A B : Type 0} → Option A → (A → Reading B) → Reading B → Reading B
or_stop None f stop = stop
or_stop (Some x) f stop = f x

-- a word of bytes below 128
abbrev pub on_kind : {A : Type 0} → stored.Awaited → ℕ → Kind → (List ℕ → Reading A) → Reading A
on_kind a at (Word w) f = cond (is_ascii w) (f w) (Stop at a)
on_kind a at (Sign s) f = Stop at a

-- a word that is not the first on its line
abbrev pub on_word : {A : Type 0} → stored.Awaited → Token → (List ℕ → Reading A) → Reading A
on_word a t f = cond t.fresh (Stop t.at a) (on_kind a t.at t.kind f)

-- a word on the same line, with its offset
abbrev pub word : stored.Awaited → Source → Reading (ℕ × List ℕ)
word a (Ended at) = Stop at a
word a (More t rest) = on_word a t (λ w. Got (t.at, w) rest)

-- a number of 32 bits on the same line
abbrev pub number : stored.Awaited → Source → Reading ℕ
number a s = next (word a s) (λ w rest. or_stop (number_of w.1) (λ n. Got n rest) (Stop w.0 a))

-- the place of the name among the names, the first being i
abbrev pub index_from : ℕ → List ℕ → List (List ℕ) → Option ℕ
index_from i name names = position_from (λ other. bytes_eq name other) i names

abbrev pub index_of : List ℕ → List (List ℕ) → Option ℕ
index_of name names = index_from 0 name names

-- the number of the list of that name
abbrev pub list_name : List (List ℕ) → Source → Reading ℕ
list_name names s = next (word awaited.ListName s) (λ w rest. or_stop (index_of w.1 names) (λ i. Got i rest) (Stop w.0 awaited.ListName))

abbrev pub range_test : List (List ℕ) → ℕ → Option RangeWord → Source → Reading Test
range_test names at (Some range.In) s = next (list_name names s) (λ i rest. Got (a_test.PrefixIn i) rest)
range_test names at (Some range.Within) s = next (list_name names s) (λ i rest. Got (a_test.PrefixWithin i) rest)
range_test names at None s = Stop at awaited.InOrWithin

-- a test of the prefix, behind `range`
abbrev pub range_of : List (List ℕ) → Source → Reading Test
range_of names s = next (word awaited.InOrWithin s) (λ w rest. range_test names w.0 (range_word w.1) rest)

-- a test, behind its first word
abbrev pub test_at : List (List ℕ) → ℕ → Option TestWord → Source → Reading Test
test_at names at (Some test.Not) s = Stop at awaited.Test
test_at names at (Some test.Any) s = Got a_test.Any s
test_at names at (Some test.Range) s = range_of names s
test_at names at (Some test.Passes) s = next (number awaited.Number s) (λ n rest. Got (a_test.Passes n) rest)
test_at names at (Some test.Marked) s = next (number awaited.Number s) (λ n rest. Got (a_test.HasCommunity n) rest)
test_at names at (Some test.Longer) s = next (number awaited.Number s) (λ n rest. Got (a_test.LongerThan n) rest)
test_at names at None s = Stop at awaited.Test

-- a part, negated or not so far, behind its first word; again: the part behind one `not` more
abbrev pub part_at : List (List ℕ) → Bool → ℕ → Option TestWord → Source → Reading Part → Reading Part
part_at names negated at (Some test.Not) s again = again
part_at names negated at (Some test.Any) s again = next (test_at names at (Some test.Any) s) (λ t rest. Got (record { negated = negated; test = t }) rest)
part_at names negated at (Some test.Range) s again = next (test_at names at (Some test.Range) s) (λ t rest. Got (record { negated = negated; test = t }) rest)
part_at names negated at (Some test.Passes) s again = next (test_at names at (Some test.Passes) s) (λ t rest. Got (record { negated = negated; test = t }) rest)
part_at names negated at (Some test.Marked) s again = next (test_at names at (Some test.Marked) s) (λ t rest. Got (record { negated = negated; test = t }) rest)
part_at names negated at (Some test.Longer) s again = next (test_at names at (Some test.Longer) s) (λ t rest. Got (record { negated = negated; test = t }) rest)
part_at names negated at None s again = Stop at awaited.Test

-- any number of `not` and a test
unfoldable pub part : List (List ℕ) → Bool → Source → Reading Part
part names negated (Ended at) = Stop at awaited.Test
part names negated (More t rest) = on_word awaited.Test t (λ w. part_at names negated t.at (test_word w) rest (part names (not negated) rest))

-- what stands behind a part: with `and` the parts go on, with `then` they are all
abbrev pub joined : ℕ → Option JointWord → List Part → Source → Reading (List Part) → Reading (List Part)
joined at (Some joint.And) parts rest more = more
joined at (Some joint.Then) parts rest more = Got parts rest
joined at None parts rest more = Stop at awaited.AndOrThen

-- the parts of a condition, after those before; k more than the next one may come
unfoldable pub parts : ℕ → List (List ℕ) → List Part → Source → Reading (List Part)
parts zero names before s =
    next (part names false s) (λ p rest.
    next (word awaited.AndOrThen rest) (λ w rest₂.
    joined w.0 (joint_word w.1) (before ++ (p ∷ [])) rest₂ (Stop w.0 awaited.Then)))
parts (suc k) names before s =
    next (part names false s) (λ p rest.
    next (word awaited.AndOrThen rest) (λ w rest₂.
    joined w.0 (joint_word w.1) (before ++ (p ∷ [])) rest₂ (parts k names (before ++ (p ∷ [])) rest₂)))

-- a condition has at most 16 parts, and ends with `then`
abbrev pub condition : List (List ℕ) → Source → Reading (List Part)
condition names s = parts 15 names [] s

-- how often a number is put in front: at most 8 times
abbrev pub times : Source → Reading ℕ
times s =
    next (word awaited.Times s) (λ w rest.
    cond (bytes_eq w.1 (codes "times"))
    (next (word awaited.Count rest) (λ v rest₂. or_stop (number_of v.1) (λ n. cond (nat_le n 8) (Got n rest₂) (Stop v.0 awaited.Count)) (Stop v.0 awaited.Count)))
    (Stop w.0 awaited.Times))

-- an action, behind its first word
abbrev pub action_at : ℕ → Option ActionWord → Source → Reading Action
action_at at (Some action.Take) s = Got an_action.Accept s
action_at at (Some action.Leave) s = Got an_action.Reject s
action_at at (Some action.Like) s = next (number awaited.Number s) (λ n rest. Got (an_action.SetLocalPref n) rest)
action_at at (Some action.Far) s = next (number awaited.Number s) (λ n rest. Got (an_action.SetMed n) rest)
action_at at (Some action.Mark) s = next (number awaited.Number s) (λ n rest. Got (an_action.AddCommunity n) rest)
action_at at (Some action.Unmark) s = next (number awaited.Number s) (λ n rest. Got (an_action.RemoveCommunity n) rest)
action_at at (Some action.Front) s = next (number awaited.Number s) (λ n rest. next (times rest) (λ k rest₂. Got (an_action.Prepend n k) rest₂))
action_at at None s = Stop at awaited.Action

abbrev pub action_of : Source → Reading Action
action_of s = next (word awaited.Action s) (λ w rest. action_at w.0 (action_word w.1) rest)

-- a clause as it is written, with lists by their numbers
pub record Written : Type 0 where
  pub parts : List Part
  pub action : Action

-- a clause, behind its `if`
abbrev pub clause : List (List ℕ) → Source → Reading Written
clause names s = next (condition names s) (λ ps rest. next (action_of rest) (λ a rest₂. Got (record { parts = ps; action = a }) rest₂))
