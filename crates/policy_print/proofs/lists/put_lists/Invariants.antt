use Rattle.std.proofs.Common.{◌≡◌, ◌++◌, map, drop, string_bytes}
use Rattle.policy.specs.Meant.{prefixes_of}
use Rattle.policy_print.specs.Printed.{lists_text}
use Rattle.policy_print.proofs.lists.put_lists.Given as goal

-- what is there and the lists that are left make the whole
abbrev pub invariant-loop-number : goal.invariant-loop-number
invariant-loop-number l = string_bytes l.text ++ lists_text l.number (map prefixes_of (drop l.number l.lists)) ≡ string_bytes l.initial.text ++ lists_text 0 (map prefixes_of l.lists)
