use denote.Shadow.{shadow}
use denote.Text.{Utf8}
use Rattle.std.proofs.Common.{◌≡◌, [], ◌++◌, drop, string_bytes}
use Rattle.policy_print.specs.Printed.{parts_text}
use Rattle.policy_print.proofs.clauses.put_parts.Given as goal

-- what is there and the parts that are left make the whole
abbrev pub invariant-loop-part : goal.invariant-loop-part
invariant-loop-part l = shadow (Utf8 l.before) × (string_bytes l.text ++ parts_text l.before (drop l.part-index l.parts) ≡ string_bytes l.initial.text ++ parts_text [] l.parts)
