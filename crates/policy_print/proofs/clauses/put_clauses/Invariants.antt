use Rattle.std.proofs.Common.{◌≡◌, ◌++◌, map, drop, string_bytes}
use Rattle.policy_clauses.specs.Meant.{written_of}
use Rattle.policy_print.specs.Printed.{clauses_text}
use Rattle.policy_print.proofs.clauses.put_clauses.Given as goal

-- what is there and the clauses that are left make the whole
abbrev pub invariant-loop-clause : goal.invariant-loop-clause
invariant-loop-clause l = string_bytes l.text ++ clauses_text (map written_of (drop l.clause-index l.clauses)) ≡ string_bytes l.initial.text ++ clauses_text (map written_of l.clauses)
