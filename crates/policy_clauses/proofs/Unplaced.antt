-- What is read does not hang on places: from tokens without places the same is read, or is refused for the same. Assumes nothing.
use Rattle.std.proofs.Common.{◌≡◌, ℕ, zero, suc, Bool, true, false, cond, not, leb, List, [], ◌∷◌, ◌++◌, Some, None, codes, Option, refl, ap, ◌∙◌}
use Rattle.policy.specs.declared.Action.TheVariants as an_action
use Rattle.policy.specs.declared.Part.{Part}
use Rattle.policy.specs.declared.Test.{Test}
use Rattle.policy.specs.declared.Test.TheVariants as a_test
use Rattle.policy_words.specs.Words.{action_word, is_ascii, joint_word, number_of, range_word, test_word}
use Rattle.policy_words.specs.declared.ActionWord.{ActionWord}
use Rattle.policy_words.specs.declared.ActionWord.TheVariants as action
use Rattle.policy_words.specs.declared.JointWord.{JointWord}
use Rattle.policy_words.specs.declared.JointWord.TheVariants as joint
use Rattle.policy_words.specs.declared.RangeWord.{RangeWord}
use Rattle.policy_words.specs.declared.RangeWord.TheVariants as range
use Rattle.policy_words.specs.declared.TestWord.{TestWord}
use Rattle.policy_words.specs.declared.TestWord.TheVariants as test
use Rattle.std.specs.Str.{bytes_eq}
use Rattle.text_tokens.specs.Spacing.{unplaced}
use Rattle.text_tokens.specs.Tokens.{Kind, Word, Sign, Source, Ended, More}
use Rattle.policy_clauses.specs.declared.Awaited.{Awaited}
use Rattle.policy_clauses.specs.declared.Awaited.TheVariants as awaited
use Rattle.policy_clauses.specs.Reading.{Reading, Got, Stop, action_at, action_of, clause, condition, index_of, joined, list_name, next, number, on_kind, on_word, or_stop, part, part_at, parts, range_test, test_at, times, word}

-- what was read, with h of the value and without places
abbrev pub strip_by : {A : Type 0} → (A → A) → Reading A → Reading A
strip_by h (Got x rest) = Got (h x) (unplaced rest)
strip_by h (Stop at a) = Stop 0 a

abbrev pub strip : {A : Type 0} → Reading A → Reading A
strip r = strip_by (λ x. x) r

-- a word without its offset
abbrev pub bare : ℕ × List ℕ → ℕ × List ℕ
bare w = (0, w.1)

pub next_blind : {A B : Type 0} (h : A → A) (x : Reading A) (f : A → Source → Reading B) → ((v : A) (r : Source) → f (h v) (unplaced r) ≡ strip (f v r)) → next (strip_by h x) f ≡ strip (next x f)
next_blind h (Got v r) f e = e v r
next_blind h (Stop at a) f e = refl

-- one reading after another
pub then_blind : {A B : Type 0} (h : A → A) (p : Source → Reading A) (f : A → Source → Reading B) → ((s : Source) → p (unplaced s) ≡ strip_by h (p s)) → ((v : A) (r : Source) → f (h v) (unplaced r) ≡ strip (f v r)) → (s : Source) → next (p (unplaced s)) f ≡ strip (next (p s) f)
then_blind h p f first e s = ap (λ x. next x f) (first s) ∙ next_blind h (p s) f e

pub or_blind : {A B : Type 0} (o : Option A) (f g : A → Reading B) (x y : Reading B) → ((v : A) → f v ≡ strip (g v)) → x ≡ strip y → or_stop o f x ≡ strip (or_stop o g y)
or_blind None f g x y e d = d
or_blind (Some v) f g x y e d = e v

pub cond_blind : {B : Type 0} (b : Bool) (x x' y y' : Reading B) → x ≡ strip x' → y ≡ strip y' → cond b x y ≡ strip (cond b x' y')
cond_blind true x x' y y' e d = e
cond_blind false x x' y y' e d = d

pub kind_blind : {B : Type 0} (h : B → B) (a : Awaited) (at : ℕ) (k : Kind) (f g : List ℕ → Reading B) → ((w : List ℕ) → f w ≡ strip_by h (g w)) → on_kind a 0 k f ≡ strip_by h (on_kind a at k g)
kind_blind {B} h a at (Word w) f g e = chosen (is_ascii w)
  where
    chosen : (b : Bool) → cond b (f w) (Stop 0 a) ≡ strip_by h (cond b (g w) (Stop at a))
    chosen true = e w
    chosen false = refl
kind_blind h a at (Sign s) f g e = refl

on_word_blind : {B : Type 0} (h : B → B) (a : Awaited) (at : ℕ) (fresh : Bool) (k : Kind) (f g : List ℕ → Reading B) → ((w : List ℕ) → f w ≡ strip_by h (g w)) → on_word a (record { at = 0; fresh = fresh; kind = k }) f ≡ strip_by h (on_word a (record { at = at; fresh = fresh; kind = k }) g)
on_word_blind h a at true k f g e = refl
on_word_blind h a at false k f g e = kind_blind h a at k f g e

pub word_blind : (a : Awaited) (s : Source) → word a (unplaced s) ≡ strip_by bare (word a s)
unfolding unplaced
word_blind a (Ended at) = refl
word_blind a (More t rest) = on_word_blind bare a t.at t.fresh t.kind (λ w. Got (0, w) (unplaced rest)) (λ w. Got (t.at, w) rest) (λ w. refl)

pub number_blind : (a : Awaited) (s : Source) → number a (unplaced s) ≡ strip (number a s)
number_blind a =
    then_blind bare (word a) (λ w rest. or_stop (number_of w.1) (λ n. Got n rest) (Stop w.0 a)) (word_blind a)
    (λ w r. or_blind (number_of w.1) (λ n. Got n (unplaced r)) (λ n. Got n r) (Stop 0 a) (Stop w.0 a) (λ n. refl) refl)

list_name_blind : (names : List (List ℕ)) (s : Source) → list_name names (unplaced s) ≡ strip (list_name names s)
list_name_blind names =
    then_blind bare (word awaited.ListName) (λ w rest. or_stop (index_of w.1 names) (λ i. Got i rest) (Stop w.0 awaited.ListName)) (word_blind awaited.ListName)
    (λ w r. or_blind (index_of w.1 names) (λ i. Got i (unplaced r)) (λ i. Got i r) (Stop 0 awaited.ListName) (Stop w.0 awaited.ListName) (λ i. refl) refl)

-- what is made of a value that was read
made_blind : {A B : Type 0} (p : Source → Reading A) (f : A → B) → ((s : Source) → p (unplaced s) ≡ strip (p s)) → (s : Source) → next (p (unplaced s)) (λ v rest. Got (f v) rest) ≡ strip (next (p s) (λ v rest. Got (f v) rest))
made_blind p f e = then_blind (λ x. x) p (λ v rest. Got (f v) rest) e (λ v r. refl)

range_blind : (names : List (List ℕ)) (at : ℕ) (k : Option RangeWord) (s : Source) → range_test names 0 k (unplaced s) ≡ strip (range_test names at k s)
range_blind names at (Some range.In) s = made_blind (list_name names) a_test.PrefixIn (list_name_blind names) s
range_blind names at (Some range.Within) s = made_blind (list_name names) a_test.PrefixWithin (list_name_blind names) s
range_blind names at None s = refl

test_blind : (names : List (List ℕ)) (at : ℕ) (k : Option TestWord) (s : Source) → test_at names 0 k (unplaced s) ≡ strip (test_at names at k s)
test_blind names at (Some test.Not) s = refl
test_blind names at (Some test.Any) s = refl
test_blind names at (Some test.Range) s =
    then_blind bare (word awaited.InOrWithin) (λ w rest. range_test names w.0 (range_word w.1) rest) (word_blind awaited.InOrWithin) (λ w r. range_blind names w.0 (range_word w.1) r) s
test_blind names at (Some test.Passes) s = made_blind (number awaited.Number) a_test.Passes (number_blind awaited.Number) s
test_blind names at (Some test.Marked) s = made_blind (number awaited.Number) a_test.HasCommunity (number_blind awaited.Number) s
test_blind names at (Some test.Longer) s = made_blind (number awaited.Number) a_test.LongerThan (number_blind awaited.Number) s
test_blind names at None s = refl

abbrev part_with : Bool → Test → Part
part_with negated t = record { negated = negated; test = t }

part_at_blind : (names : List (List ℕ)) (negated : Bool) (at : ℕ) (k : Option TestWord) (s : Source) (again again' : Reading Part) → again' ≡ strip again → part_at names negated 0 k (unplaced s) again' ≡ strip (part_at names negated at k s again)
part_at_blind names negated at (Some test.Not) s again again' e = e
part_at_blind names negated at (Some test.Any) s again again' e = refl
part_at_blind names negated at (Some test.Range) s again again' e = ap (λ x. next x (λ t rest. Got (part_with negated t) rest)) (test_blind names at (Some test.Range) s) ∙ next_blind (λ x. x) (test_at names at (Some test.Range) s) (λ t rest. Got (part_with negated t) rest) (λ t r. refl)
part_at_blind names negated at (Some test.Passes) s again again' e = ap (λ x. next x (λ t rest. Got (part_with negated t) rest)) (test_blind names at (Some test.Passes) s) ∙ next_blind (λ x. x) (test_at names at (Some test.Passes) s) (λ t rest. Got (part_with negated t) rest) (λ t r. refl)
part_at_blind names negated at (Some test.Marked) s again again' e = ap (λ x. next x (λ t rest. Got (part_with negated t) rest)) (test_blind names at (Some test.Marked) s) ∙ next_blind (λ x. x) (test_at names at (Some test.Marked) s) (λ t rest. Got (part_with negated t) rest) (λ t r. refl)
part_at_blind names negated at (Some test.Longer) s again again' e = ap (λ x. next x (λ t rest. Got (part_with negated t) rest)) (test_blind names at (Some test.Longer) s) ∙ next_blind (λ x. x) (test_at names at (Some test.Longer) s) (λ t rest. Got (part_with negated t) rest) (λ t r. refl)
part_at_blind names negated at None s again again' e = refl

part_blind : (names : List (List ℕ)) (negated : Bool) (s : Source) → part names negated (unplaced s) ≡ strip (part names negated s)
unfolding part unplaced
part_blind names negated (Ended at) = refl
part_blind names negated (More t rest) =
    on_word_blind (λ x. x) awaited.Test t.at t.fresh t.kind (λ w. part_at names negated 0 (test_word w) (unplaced rest) (part names (not negated) (unplaced rest))) (λ w. part_at names negated t.at (test_word w) rest (part names (not negated) rest))
    (λ w. part_at_blind names negated t.at (test_word w) rest (part names (not negated) rest) (part names (not negated) (unplaced rest)) (part_blind names (not negated) rest))

joined_blind : (at : ℕ) (w : Option JointWord) (ps : List Part) (r : Source) (x y : Reading (List Part)) → x ≡ strip y → joined 0 w ps (unplaced r) x ≡ strip (joined at w ps r y)
joined_blind at (Some joint.And) ps r x y e = e
joined_blind at (Some joint.Then) ps r x y e = refl
joined_blind at None ps r x y e = refl

parts_blind : (k : ℕ) (names : List (List ℕ)) (b : List Part) (s : Source) → parts k names b (unplaced s) ≡ strip (parts k names b s)
unfolding parts
parts_blind zero names b =
    then_blind (λ x. x) (part names false) (λ p rest. next (word awaited.AndOrThen rest) (λ w rest₂. joined w.0 (joint_word w.1) (b ++ (p ∷ [])) rest₂ (Stop w.0 awaited.Then))) (part_blind names false)
    (λ p r. then_blind bare (word awaited.AndOrThen) (λ w rest₂. joined w.0 (joint_word w.1) (b ++ (p ∷ [])) rest₂ (Stop w.0 awaited.Then)) (word_blind awaited.AndOrThen)
    (λ w r₂. joined_blind w.0 (joint_word w.1) (b ++ (p ∷ [])) r₂ (Stop 0 awaited.Then) (Stop w.0 awaited.Then) refl) r)
parts_blind (suc k) names b =
    then_blind (λ x. x) (part names false) (λ p rest. next (word awaited.AndOrThen rest) (λ w rest₂. joined w.0 (joint_word w.1) (b ++ (p ∷ [])) rest₂ (parts k names (b ++ (p ∷ [])) rest₂))) (part_blind names false)
    (λ p r. then_blind bare (word awaited.AndOrThen) (λ w rest₂. joined w.0 (joint_word w.1) (b ++ (p ∷ [])) rest₂ (parts k names (b ++ (p ∷ [])) rest₂)) (word_blind awaited.AndOrThen)
    (λ w r₂. joined_blind w.0 (joint_word w.1) (b ++ (p ∷ [])) r₂ (parts k names (b ++ (p ∷ [])) (unplaced r₂)) (parts k names (b ++ (p ∷ [])) r₂) (parts_blind k names (b ++ (p ∷ [])) r₂)) r)

counted : ℕ × List ℕ → Source → Reading ℕ
counted v rest₂ = or_stop (number_of v.1) (λ n. cond (leb n 8) (Got n rest₂) (Stop v.0 awaited.Count)) (Stop v.0 awaited.Count)

counted_blind : (v : ℕ × List ℕ) (r : Source) → counted (bare v) (unplaced r) ≡ strip (counted v r)
unfolding counted
counted_blind v r =
    or_blind (number_of v.1) (λ n. cond (leb n 8) (Got n (unplaced r)) (Stop 0 awaited.Count)) (λ n. cond (leb n 8) (Got n r) (Stop v.0 awaited.Count)) (Stop 0 awaited.Count) (Stop v.0 awaited.Count)
    (λ n. cond_blind (leb n 8) (Got n (unplaced r)) (Got n r) (Stop 0 awaited.Count) (Stop v.0 awaited.Count) refl refl) refl

times_blind : (s : Source) → times (unplaced s) ≡ strip (times s)
unfolding counted
times_blind =
    then_blind bare (word awaited.Times) (λ w rest. cond (bytes_eq w.1 (codes "times")) (next (word awaited.Count rest) counted) (Stop w.0 awaited.Times)) (word_blind awaited.Times)
    (λ w r. cond_blind (bytes_eq w.1 (codes "times")) (next (word awaited.Count (unplaced r)) counted) (next (word awaited.Count r) counted) (Stop 0 awaited.Times) (Stop w.0 awaited.Times) (then_blind bare (word awaited.Count) counted (word_blind awaited.Count) counted_blind r) refl)

action_at_blind : (at : ℕ) (k : Option ActionWord) (s : Source) → action_at 0 k (unplaced s) ≡ strip (action_at at k s)
action_at_blind at (Some action.Take) s = refl
action_at_blind at (Some action.Leave) s = refl
action_at_blind at (Some action.Like) s = made_blind (number awaited.Number) an_action.SetLocalPref (number_blind awaited.Number) s
action_at_blind at (Some action.Far) s = made_blind (number awaited.Number) an_action.SetMed (number_blind awaited.Number) s
action_at_blind at (Some action.Mark) s = made_blind (number awaited.Number) an_action.AddCommunity (number_blind awaited.Number) s
action_at_blind at (Some action.Unmark) s = made_blind (number awaited.Number) an_action.RemoveCommunity (number_blind awaited.Number) s
action_at_blind at (Some action.Front) s =
    then_blind (λ x. x) (number awaited.Number) (λ n rest. next (times rest) (λ k rest₂. Got (an_action.Prepend n k) rest₂)) (number_blind awaited.Number) (λ n r. made_blind times (an_action.Prepend n) times_blind r) s
action_at_blind at None s = refl

action_blind : (s : Source) → action_of (unplaced s) ≡ strip (action_of s)
action_blind = then_blind bare (word awaited.Action) (λ w rest. action_at w.0 (action_word w.1) rest) (word_blind awaited.Action) (λ w r. action_at_blind w.0 (action_word w.1) r)

pub clause_blind : (names : List (List ℕ)) (s : Source) → clause names (unplaced s) ≡ strip (clause names s)
clause_blind names =
    then_blind (λ x. x) (condition names) (λ ps rest. next (action_of rest) (λ a rest₂. Got (record { parts = ps; action = a }) rest₂)) (parts_blind 15 names [])
    (λ ps r. made_blind action_of (λ a. record { parts = ps; action = a }) action_blind r)
