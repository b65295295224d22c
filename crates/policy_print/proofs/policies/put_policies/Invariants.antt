use Rattle.std.proofs.Common.{◌≡◌, ◌++◌, string_bytes}
use Rattle.policy_tables.specs.Meant.{content_of}
use Rattle.policy_print.specs.Printed.{policies_text}
use Rattle.policy_print.proofs.policies.put_policies.Given as goal

-- the policies of the peers so far are appended
abbrev pub invariant-loop-peer : goal.invariant-loop-peer
invariant-loop-peer l = string_bytes l.text ≡ string_bytes l.initial.text ++ policies_text l.direction l.peer (content_of l.policies)
