-- Policies, and what one makes of a route. Assumes nothing.
use Rattle.std.specs.Prelude.{ℕ, Bool, true, cond, not, List, [], ◌∷◌, length, Some, None, Option, nat_le, nat_lt}
use Rattle.std.specs.List.{list_all, list_any}
use Rattle.prefix.specs.Prefix.{Prefix, same, within}
use Rattle.route.specs.Numbers.{is_in, insert, without, prepended}
use Rattle.route.specs.Route.{Route, with_path, with_local_pref, with_med, with_communities}

-- what a part of a condition asks
pub data Test : Type 0 where
  Any : Test
  PrefixIn : List Prefix → Test
  PrefixWithin : List Prefix → Test
  Passes : (asn : ℕ) → Test
  HasCommunity : (community : ℕ) → Test
  LongerThan : (asns : ℕ) → Test

pub record Part : Type 0 where
  pub negated : Bool
  pub test : Test

-- the parts of a condition are joined by `and`
abbrev pub Condition : Type 0
Condition = List Part

-- what a clause does where its condition holds
pub data Action : Type 0 where
  Accept : Action
  Reject : Action
  SetLocalPref : ℕ → Action
  SetMed : ℕ → Action
  AddCommunity : ℕ → Action
  RemoveCommunity : ℕ → Action
  Prepend : (asn times : ℕ) → Action

pub record Clause : Type 0 where
  pub condition : Condition
  pub action : Action

abbrev pub Policy : Type 0
Policy = List Clause

-- p is one of the list
abbrev pub is_listed : Prefix → List Prefix → Bool
is_listed p qs = list_any (same p) qs

-- p is within one of the list
abbrev pub is_covered : Prefix → List Prefix → Bool
is_covered p qs = list_any (within p) qs

-- what the test says of a route
abbrev pub fits : Test → Route → Bool
fits Any r = true
fits (PrefixIn list) r = is_listed r.prefix list
fits (PrefixWithin list) r = is_covered r.prefix list
fits (Passes asn) r = is_in asn r.path
fits (HasCommunity community) r = is_in community r.communities
fits (LongerThan asns) r = nat_lt asns (length r.path)

abbrev pub part_holds : Part → Route → Bool
part_holds p r = cond p.negated (not (fits p.test r)) (fits p.test r)

-- all parts hold
abbrev pub holds : Condition → Route → Bool
holds ps r = list_all (λ p. part_holds p r) ps

-- the end of an evaluation: whether the route is accepted, and the route as it is then
pub data Verdict : Type 0 where
  Accepted : Route → Verdict
  Rejected : Route → Verdict

-- what comes of an action, and of a row of clauses: a verdict, or a route that goes on to the next clause
pub data Step : Type 0 where
  Decided : Verdict → Step
  GoesOn : Route → Step

-- a path of more than 32 networks, or a ninth community, rejects the route
abbrev pub act : Action → Route → Step
act Accept r = Decided (Accepted r)
act Reject r = Decided (Rejected r)
act (SetLocalPref n) r = GoesOn (with_local_pref n r)
act (SetMed n) r = GoesOn (with_med n r)
act (AddCommunity c) r = cond (nat_le (length (insert c r.communities)) 8) (GoesOn (with_communities (insert c r.communities) r)) (Decided (Rejected r))
act (RemoveCommunity c) r = GoesOn (with_communities (without c r.communities) r)
act (Prepend asn times) r = cond (nat_le (length (prepended asn times r.path)) 32) (GoesOn (with_path (prepended asn times r.path) r)) (Decided (Rejected r))

-- a clause whose condition does not hold lets the route go on as it is
abbrev pub clause_step : Clause → Route → Step
clause_step c r = cond (holds c.condition r) (act c.action r) (GoesOn r)

-- a verdict stands; else the route goes on
abbrev pub and_then : Step → (Route → Step) → Step
and_then (Decided v) next = Decided v
and_then (GoesOn r) next = next r

-- clause by clause, until one decides
unfoldable pub through : Policy → Route → Step
through [] r = GoesOn r
through (c ∷ cs) r = and_then (clause_step c r) (λ q. through cs q)

-- at the end of a policy the route is rejected
abbrev pub at_end : Step → Verdict
at_end (Decided v) = v
at_end (GoesOn r) = Rejected r

abbrev pub verdict : Policy → Route → Verdict
verdict p r = at_end (through p r)

abbrev pub accepted : Verdict → Option Route
accepted (Accepted r) = Some r
accepted (Rejected r) = None

-- what a policy makes of a route: the route with what was set, or nothing
abbrev pub evaluate : Policy → Route → Option Route
evaluate p r = accepted (verdict p r)
