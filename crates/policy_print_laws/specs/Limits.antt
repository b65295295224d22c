-- The limits of policies: which ones a text can say. Assumes nothing.
use Rattle.std.specs.Prelude.{◌≡◌, ℕ, ◌^◌, ◌<◌, ◌≤◌, true, List, length, Some, None, slice_index_or}
use Rattle.policy.specs.declared.Action.{Action}
use Rattle.policy.specs.declared.Action.TheVariants as an_action
use Rattle.policy.specs.declared.Part.{Part}
use Rattle.policy.specs.declared.Test.{Test}
use Rattle.policy.specs.declared.Test.TheVariants as a_test
use Rattle.policy_clauses.specs.Reading.{Written}
use Rattle.policy_tables.specs.Texts.{Content, place_of}
use Rattle.policy_tables.specs.declared.Direction.{Direction}
use Rattle.prefix.specs.Prefix.{Prefix, is_prefix}
use Rattle.std.specs.List.{AllByRecursion}

abbrev pub IsPrefix : Prefix → Type 0
IsPrefix p = is_prefix p.address p.length ≡ true

-- 1 to 64 prefixes
pub record ListFits (list : List Prefix) : Type 0 where
  pub some : 1 ≤ length list
  pub few : length list ≤ 64
  pub all : AllByRecursion IsPrefix list

-- numbers have 32 bits, and a list is one of so many
abbrev pub TestFits : ℕ → Test → Type 0
TestFits lists a_test.Any = Unit {0}
TestFits lists (a_test.PrefixIn i) = i < lists
TestFits lists (a_test.PrefixWithin i) = i < lists
TestFits lists (a_test.Passes n) = n < 2 ^ 32
TestFits lists (a_test.HasCommunity n) = n < 2 ^ 32
TestFits lists (a_test.LongerThan n) = n < 2 ^ 32

abbrev pub PartFits : ℕ → Part → Type 0
PartFits lists p = TestFits lists p.test

abbrev pub ActionFits : Action → Type 0
ActionFits an_action.Accept = Unit {0}
ActionFits an_action.Reject = Unit {0}
ActionFits (an_action.SetLocalPref n) = n < 2 ^ 32
ActionFits (an_action.SetMed n) = n < 2 ^ 32
ActionFits (an_action.AddCommunity n) = n < 2 ^ 32
ActionFits (an_action.RemoveCommunity n) = n < 2 ^ 32
ActionFits (an_action.Prepend asn times) = (asn < 2 ^ 32) × (times ≤ 8)

-- 1 to 16 parts
pub record ClauseFits (lists : ℕ) (c : Written) : Type 0 where
  pub some : 1 ≤ length c.parts
  pub few : length c.parts ≤ 16
  pub parts : AllByRecursion (PartFits lists) c.parts
  pub action : ActionFits c.action

-- at most 256 clauses, and the peer is one of the server's
pub record PolicyFits (lists peers peer : ℕ) (cs : List Written) : Type 0 where
  pub known : peer < peers
  pub few : length cs ≤ 256
  pub all : AllByRecursion (ClauseFits lists) cs

-- at most 64 lists; two policies, that may be missing, for each of 64 peers
pub record Fits (peers : ℕ) (c : Content) : Type 0 where
  pub few_lists : length c.lists ≤ 64
  pub lists : AllByRecursion ListFits c.lists
  pub row : length c.policies ≡ 128
  pub policies : (direction : Direction) (peer : ℕ) (cs : List Written) → peer < 64 → slice_index_or c.policies (place_of direction peer) None ≡ Some cs → PolicyFits (length c.lists) peers peer cs
