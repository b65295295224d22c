use Rattle.std.proofs.Common.{◌≡◌, map, drop}
use Rattle.route.specs.Meant.{route_of}
use Rattle.policy.specs.Meant.{clause_of}
use Rattle.policy.specs.Policy.{through}
use Rattle.policy.proofs.Policy.evaluate.Given as goal

-- the clauses that are left make of the route as it is now what all make of it as it was
abbrev pub invariant-loop-clause : goal.invariant-loop-clause
invariant-loop-clause l = through (map (clause_of l.lists) (drop l.clause-index l.self.clauses.now)) (route_of l.route) ≡ through (map (clause_of l.lists) l.self.clauses.now) (route_of l.initial.route)
