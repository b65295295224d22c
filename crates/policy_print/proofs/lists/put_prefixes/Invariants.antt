use denote.Shadow.{shadow}
use denote.Text.{Utf8}
use Rattle.std.proofs.Common.{◌≡◌, [], ◌++◌, map, drop, string_bytes}
use Rattle.prefix.specs.Meant.{meant}
use Rattle.policy_print.specs.Printed.{prefixes_text}
use Rattle.policy_print.proofs.lists.put_prefixes.Given as goal

-- what is there and the prefixes that are left make the whole
abbrev pub invariant-loop-prefix : goal.invariant-loop-prefix
invariant-loop-prefix l = shadow (Utf8 l.before) × (string_bytes l.text ++ prefixes_text l.before (map meant (drop l.prefix-index l.prefixes)) ≡ string_bytes l.initial.text ++ prefixes_text [] (map meant l.prefixes))
