-- What a policy text means. Assumes nothing.
use Rattle.std.specs.Prelude.{ℕ, zero, suc, ◌+◌, ◌-◌, min, true, cond, not, ◌&&◌, List, [], ◌∷◌, ◌++◌, map, length, replicate, is_some, Some, None, codes, Option, nat_le, nat_lt, slice_index_or, slice_set}
use Rattle.policy.specs.Meant.{action_of}
use Rattle.policy.specs.Policy.{Clause, Part, Policy, Test, Any, PrefixIn, PrefixWithin, Passes, HasCommunity, LongerThan}
use Rattle.policy.specs.declared.Part as stored_part
use Rattle.policy.specs.declared.Test as stored_test
use Rattle.policy.specs.declared.Test.TheVariants as a_test
use Rattle.policy_clauses.specs.Reading.{Reading, Got, Stop, Written, next, on_kind, or_stop, word}
use Rattle.policy_clauses.specs.declared.Awaited.{Awaited}
use Rattle.policy_clauses.specs.declared.Awaited.TheVariants as awaited
use Rattle.policy_items.specs.Items.{clauses, list_head, opens, prefix_list}
use Rattle.policy_words.specs.Words.{item_word, number_of}
use Rattle.policy_words.specs.declared.ItemWord.{ItemWord}
use Rattle.policy_words.specs.declared.ItemWord.TheVariants as an_item_word
use Rattle.prefix.specs.Prefix.{Prefix}
use Rattle.text_tokens.specs.Tokens.{Source, Ended, More, Token, tokens}
use Rattle.policy_tables.specs.declared.Direction.{Direction}
use Rattle.policy_tables.specs.declared.Direction.TheVariants.{Import, Export}

-- the lists and the policies of a whole text
pub record Content : Type 0 where
  pub lists : List (List Prefix)
  pub policies : List (Option (List Written))

-- what a text has said so far: the names of its lists, the lists, the clauses of each policy that it names, and how many clauses these are
pub record Draft : Type 0 where
  pub names : List (List ℕ)
  pub lists : List (List Prefix)
  pub policies : List (Option (List Written))
  pub count : ℕ

-- no lists, and no policy of any peer
abbrev pub nothing : Content
nothing = record { lists = []; policies = replicate 128 None }

abbrev pub empty : Draft
empty = record { names = []; lists = nothing.lists; policies = nothing.policies; count = 0 }

-- the policies are in one row: those for import by the peer's number, and 64 further on those for export
abbrev pub place_of : Direction → ℕ → ℕ
place_of Import peer = peer
place_of Export peer = 64 + peer

-- the word that begins a policy
abbrev pub direction_word : Direction → List ℕ
direction_word Import = codes "from"
direction_word Export = codes "to"

abbrev pub with_list : List ℕ → List Prefix → Draft → Draft
with_list name list d = record { names = d.names ++ (name ∷ []); lists = d.lists ++ (list ∷ []); policies = d.policies; count = d.count }

abbrev pub with_policy : ℕ → List Written → Draft → Draft
with_policy place cs d = record { names = d.names; lists = d.lists; policies = slice_set d.policies place (Some cs); count = d.count + length cs }

-- the number of a peer of the settings whose policy the text has not named; a server has at most 64 peers
abbrev pub peer : ℕ → Direction → List (Option (List Written)) → Source → Reading ℕ
peer peers direction policies s =
    next (word awaited.Peer s) (λ w rest.
    or_stop (number_of w.1) (λ n.
    cond (nat_lt n (min peers 64) && not (is_some (slice_index_or policies (place_of direction n) None))) (Got (place_of direction n) rest) (Stop w.0 awaited.Peer))
    (Stop w.0 awaited.Peer))

-- a policy, behind `from` or `to`: at most 256 clauses, and at most 4,096 in all, which no text of 65,536 bytes has
abbrev pub policy_text : ℕ → Direction → Draft → Source → Reading Draft
policy_text peers direction d s =
    next (peer peers direction d.policies s) (λ place rest.
    next (opens rest) (λ _ rest₂.
    next (clauses (min 256 (4096 - d.count)) d.names true [] rest₂) (λ cs rest₃.
    Got (with_policy place cs d) rest₃)))

-- a list, behind `list`: at most 64 in a text
abbrev pub list_text : ℕ → Draft → Source → Reading Draft
list_text at d s =
    cond (nat_lt (length d.lists) 64)
    (next (list_head d.names s) (λ name rest. next (prefix_list rest) (λ list rest₂. Got (with_list name list d) rest₂)))
    (Stop at awaited.Policy)

abbrev pub item_text : ℕ → Draft → ℕ → Option ItemWord → Source → Reading Draft
item_text peers d at (Some an_item_word.List) s = list_text at d s
item_text peers d at (Some an_item_word.From) s = policy_text peers Import d s
item_text peers d at (Some an_item_word.To) s = policy_text peers Export d s
item_text peers d at None s = Stop at awaited.Item

-- a list or a policy, from its first word on
abbrev pub item : ℕ → Draft → Token → Source → Reading Draft
item peers d t rest = on_kind awaited.Item t.at t.kind (λ w. item_text peers d t.at (item_word w) rest)

-- k lists and policies may come, and then the end
unfoldable pub items : ℕ → ℕ → Draft → Source → Reading Draft
items k peers d (Ended at) = Got d (Ended at)
items zero peers d (More t rest) = Stop t.at awaited.End
items (suc k) peers d (More t rest) = next (item peers d t rest) (λ e rest₂. items k peers e rest₂)

pub data Outcome : Type 0 where
  Read : Content → Outcome
  Refused : (at : ℕ) → Awaited → Outcome

abbrev pub outcome : Reading Draft → Outcome
outcome (Got d rest) = Read (record { lists = d.lists; policies = d.policies })
outcome (Stop at a) = Refused at a

-- what a text means for a server with so many peers: at most 65,536 bytes; 64 lists and 128 policies are the most that it can have
abbrev pub meaning : ℕ → List ℕ → Outcome
meaning peers text = cond (nat_le (length text) 65536) (outcome (items 192 peers empty (tokens text))) (Refused 65536 awaited.End)

-- clauses with their lists in place of the lists' numbers
abbrev pub test_meant : List (List Prefix) → stored_test.Test → Test
test_meant ls a_test.Any = Any
test_meant ls (a_test.PrefixIn i) = PrefixIn (slice_index_or ls i [])
test_meant ls (a_test.PrefixWithin i) = PrefixWithin (slice_index_or ls i [])
test_meant ls (a_test.Passes n) = Passes n
test_meant ls (a_test.HasCommunity n) = HasCommunity n
test_meant ls (a_test.LongerThan n) = LongerThan n

abbrev pub part_meant : List (List Prefix) → stored_part.Part → Part
part_meant ls p = record { negated = p.negated; test = test_meant ls p.test }

abbrev pub clause_meant : List (List Prefix) → Written → Clause
clause_meant ls c = record { condition = map (part_meant ls) c.parts; action = action_of c.action }

abbrev pub clauses_meant : List (List Prefix) → Option (List Written) → Policy
clauses_meant ls None = []
clauses_meant ls (Some cs) = map (clause_meant ls) cs

-- the policy of a peer; one that the text does not name has no clauses
abbrev pub policy_for : Content → Direction → ℕ → Policy
policy_for c direction peer = cond (nat_lt peer 64) (clauses_meant c.lists (slice_index_or c.policies (place_of direction peer) None)) []
