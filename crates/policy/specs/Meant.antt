-- What the code's policies stand for. Assumes nothing.
use Rattle.std.specs.Prelude.{ℕ, List, [], map, Some, None, Option, slice_get, unwrap_or}
use Rattle.std.specs.Option.{option_map}
use Rattle.rows.specs.Rows.{held}
use Rattle.prefix.specs.Meant.{meant}
use Rattle.prefix.specs.Prefix.{Prefix}
use Rattle.prefix.specs.declared.Prefix.{Prefix as StoredPrefix}
use Rattle.route.specs.Route.{Route}
use Rattle.policy.specs.declared.Action as stored_action
use Rattle.policy.specs.declared.Action.TheVariants as an_action
use Rattle.policy.specs.declared.Clause as stored_clause
use Rattle.policy.specs.declared.Condition as stored_condition
use Rattle.policy.specs.declared.Part as stored_part
use Rattle.policy.specs.declared.Policy as stored_policy
use Rattle.policy.specs.declared.PrefixList.{PrefixList}
use Rattle.policy.specs.declared.Test as stored_test
use Rattle.policy.specs.declared.Test.TheVariants as a_test
use Rattle.policy.specs.declared.Verdict as stored_verdict
use Rattle.policy.specs.declared.Verdict.TheVariants as a_verdict
use Rattle.policy.specs.Policy.{Test, Any, PrefixIn, PrefixWithin, Passes, HasCommunity, LongerThan, Part, Condition, Action, Accept, Reject, SetLocalPref, SetMed, AddCommunity, RemoveCommunity, Prepend, Clause, Policy, Verdict, Accepted, Rejected, Step, Decided, GoesOn}

abbrev pub listed_of : PrefixList → List StoredPrefix
listed_of l = held l.prefixes

abbrev pub prefixes_of : PrefixList → List Prefix
prefixes_of l = map meant (listed_of l)

-- the list of that number; one that isn't there is empty
abbrev pub list_at : List PrefixList → ℕ → List Prefix
list_at ls i = unwrap_or (option_map prefixes_of (slice_get ls i)) []

abbrev pub test_of : List PrefixList → stored_test.Test → Test
test_of ls a_test.Any = Any
test_of ls (a_test.PrefixIn i) = PrefixIn (list_at ls i)
test_of ls (a_test.PrefixWithin i) = PrefixWithin (list_at ls i)
test_of ls (a_test.Passes n) = Passes n
test_of ls (a_test.HasCommunity n) = HasCommunity n
test_of ls (a_test.LongerThan n) = LongerThan n

abbrev pub part_of : List PrefixList → stored_part.Part → Part
part_of ls p = record { negated = p.negated; test = test_of ls p.test }

abbrev pub parts_of : stored_condition.Condition → List stored_part.Part
parts_of c = held c.parts

abbrev pub condition_of : List PrefixList → stored_condition.Condition → Condition
condition_of ls c = map (part_of ls) (parts_of c)

abbrev pub action_of : stored_action.Action → Action
action_of an_action.Accept = Accept
action_of an_action.Reject = Reject
action_of (an_action.SetLocalPref n) = SetLocalPref n
action_of (an_action.SetMed n) = SetMed n
action_of (an_action.AddCommunity n) = AddCommunity n
action_of (an_action.RemoveCommunity n) = RemoveCommunity n
action_of (an_action.Prepend asn times) = Prepend asn times

abbrev pub clause_of : List PrefixList → stored_clause.Clause → Clause
clause_of ls c = record { condition = condition_of ls c.condition; action = action_of c.action }

abbrev pub policy_of : stored_policy.Policy → Policy
policy_of p = map (clause_of p.lists.now) p.clauses.now

-- the code's answer, with the route as it was left
abbrev pub verdict_of : stored_verdict.Verdict → Route → Verdict
verdict_of a_verdict.Accepted r = Accepted r
verdict_of a_verdict.Rejected r = Rejected r

abbrev pub step_of : Option stored_verdict.Verdict → Route → Step
step_of (Some v) r = Decided (verdict_of v r)
step_of None r = GoesOn r
