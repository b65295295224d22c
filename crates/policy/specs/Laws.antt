-- What is true of every policy, in plain words. Assumes nothing.
use Rattle.std.specs.Prelude.{◌≡◌, ℕ, ◌<◌, Bool, true, false, ◌&&◌, ◌||◌, List, [], ◌∷◌, ◌++◌, length, Some, None, ◌==◌, slice_index}
use Rattle.route.specs.Route.{Route, Formed}
use Rattle.policy.specs.Policy.{Condition, holds, Action, Accept, Reject, SetLocalPref, SetMed, AddCommunity, RemoveCommunity, Prepend, Clause, clause_step, Policy, Verdict, Decided, GoesOn, and_then, through, verdict, evaluate}

abbrev pub prepended_by : ℕ → Action → Bool
prepended_by n Accept = false
prepended_by n Reject = false
prepended_by n (SetLocalPref m) = false
prepended_by n (SetMed m) = false
prepended_by n (AddCommunity m) = false
prepended_by n (RemoveCommunity m) = false
prepended_by n (Prepend asn times) = asn == n

-- a clause of the policy prepends that network
unfoldable pub prepends : ℕ → Policy → Bool
prepends n [] = false
prepends n (c ∷ cs) = prepended_by n c.action || prepends n cs

-- the path is the other with something in front, all of which the policy prepends
pub record Lengthened (p : Policy) (base path : List ℕ) : Type 0 where
  pub front : List ℕ
  pub whole : path ≡ front ++ base
  pub prepended : (k : ℕ) → k < length front → prepends (slice_index front k) p ≡ true

pub record PolicyLaws : Type 0 where
  -- a policy with no clauses rejects everything
  pub no_clauses : (r : Route) → evaluate [] r ≡ None
  -- the first clause that accepts or rejects decides, whatever stands behind it
  pub first_decides : (p q : Policy) (c : Clause) (r s : Route) (v : Verdict) → through p r ≡ GoesOn s → clause_step c s ≡ Decided v → verdict (p ++ (c ∷ q)) r ≡ v
  -- what is decided stays so, whatever is added behind
  pub decided_stays : (p q : Policy) (r : Route) (v : Verdict) → through p r ≡ Decided v → verdict (p ++ q) r ≡ v
  -- of two policies in a row the second goes on with what the first leaves undecided
  pub in_a_row : (p q : Policy) (r : Route) → through (p ++ q) r ≡ and_then (through p r) (λ s. through q s)
  pub undecided : (p q : Policy) (r s : Route) → through p r ≡ GoesOn s → evaluate (p ++ q) r ≡ evaluate q s
  -- a clause whose condition does not hold is as if it weren't there
  pub passed_over : (c : Clause) (p : Policy) (r : Route) → holds c.condition r ≡ false → evaluate (c ∷ p) r ≡ evaluate p r
  -- a condition of two rows of parts asks both
  pub both : (a e : Condition) (r : Route) → holds (a ++ e) r ≡ (holds a r && holds e r)
  -- what is accepted is of the same prefix, its path has only what the policy prepends in front of what it had, has at most 32 networks, and its communities stay in order, each once, at most 8
  pub same_prefix : (p : Policy) (r s : Route) → evaluate p r ≡ Some s → s.prefix ≡ r.prefix
  pub only_lengthened : (p : Policy) (r s : Route) → evaluate p r ≡ Some s → Lengthened p r.path s.path
  pub formed : (p : Policy) (r s : Route) → Formed r → evaluate p r ≡ Some s → Formed s
