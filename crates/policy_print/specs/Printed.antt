-- Policies as a text in one layout. Assumes nothing.
use Rattle.std.specs.Prelude.{ℕ, zero, suc, ◌+◌, Bool, true, false, List, [], ◌∷◌, ◌++◌, Some, None, codes, decimal, Option, slice_index_or}
use Rattle.std.specs.List.{flat_map}
use Rattle.policy.specs.declared.Action.{Action}
use Rattle.policy.specs.declared.Action.TheVariants as an_action
use Rattle.policy.specs.declared.Part.{Part}
use Rattle.policy.specs.declared.Test.{Test}
use Rattle.policy.specs.declared.Test.TheVariants as a_test
use Rattle.policy_clauses.specs.Reading.{Written}
use Rattle.policy_tables.specs.Texts.{Content, direction_word, place_of}
use Rattle.policy_tables.specs.declared.Direction.{Direction}
use Rattle.policy_tables.specs.declared.Direction.TheVariants.{Import, Export}
use Rattle.prefix.specs.Prefix.{Prefix}
pub use Rattle.prefix.specs.Text.{prefix_text}

abbrev pub line_end : List ℕ
line_end = 10 ∷ []

-- policies know their lists by number, and not by the names that some text had for them: the lists are called l0, l1, ..
abbrev pub name_text : ℕ → List ℕ
name_text i = codes "l" ++ decimal i

-- prefixes, with what stands before the first one, and a comma before each other
unfoldable pub prefixes_text : List ℕ → List Prefix → List ℕ
prefixes_text before [] = []
prefixes_text before (p ∷ ps) = before ++ (prefix_text p ++ prefixes_text (codes ", ") ps)

-- the list of number i
abbrev pub list_text : ℕ → List Prefix → List ℕ
list_text i ps = codes "list " ++ (name_text i ++ (codes " = " ++ (prefixes_text [] ps ++ line_end)))

-- the lists from number i on
unfoldable pub lists_text : ℕ → List (List Prefix) → List ℕ
lists_text i [] = []
lists_text i (l ∷ ls) = list_text i l ++ lists_text (i + 1) ls

abbrev pub test_text : Test → List ℕ
test_text a_test.Any = codes "any"
test_text (a_test.PrefixIn i) = codes "range in " ++ name_text i
test_text (a_test.PrefixWithin i) = codes "range within " ++ name_text i
test_text (a_test.Passes n) = codes "passes " ++ decimal n
test_text (a_test.HasCommunity n) = codes "marked " ++ decimal n
test_text (a_test.LongerThan n) = codes "longer " ++ decimal n

abbrev pub not_text : Bool → List ℕ
not_text true = codes "not "
not_text false = []

abbrev pub part_text : Part → List ℕ
part_text p = not_text p.negated ++ test_text p.test

-- the parts of a condition, with what stands before the first one, and `and` before each other
unfoldable pub parts_text : List ℕ → List Part → List ℕ
parts_text before [] = []
parts_text before (p ∷ ps) = before ++ (part_text p ++ parts_text (codes " and ") ps)

abbrev pub action_text : Action → List ℕ
action_text an_action.Accept = codes "take"
action_text an_action.Reject = codes "leave"
action_text (an_action.SetLocalPref n) = codes "like " ++ decimal n
action_text (an_action.SetMed n) = codes "far " ++ decimal n
action_text (an_action.AddCommunity n) = codes "mark " ++ decimal n
action_text (an_action.RemoveCommunity n) = codes "unmark " ++ decimal n
action_text (an_action.Prepend asn times) = codes "front " ++ (decimal asn ++ (codes " times " ++ decimal times))

-- a clause is one line
abbrev pub clause_text : Written → List ℕ
clause_text c = codes "    if " ++ (parts_text [] c.parts ++ (codes " then " ++ (action_text c.action ++ line_end)))

abbrev pub clauses_text : List Written → List ℕ
clauses_text cs = flat_map clause_text cs

abbrev pub direction_text : Direction → List ℕ
direction_text d = direction_word d ++ codes " "

-- the policy of a peer; nothing, if the peer has none of that direction
abbrev pub policy_text : Direction → ℕ → Option (List Written) → List ℕ
policy_text direction peer None = []
policy_text direction peer (Some cs) = direction_text direction ++ (decimal peer ++ (codes " {" ++ (line_end ++ (clauses_text cs ++ (codes "}" ++ line_end)))))

-- the policies of one direction, of the peers below n
unfoldable pub policies_text : Direction → ℕ → Content → List ℕ
policies_text direction zero c = []
policies_text direction (suc n) c = policies_text direction n c ++ policy_text direction n (slice_index_or c.policies (place_of direction n) None)

-- all lists, then the policies for import, and then those for export, each by the number of the peer
abbrev pub printed : Content → List ℕ
printed c = lists_text 0 c.lists ++ (policies_text Import 64 c ++ policies_text Export 64 c)
