use Rattle.std.proofs.Common.{◌≡◌, ◌-◌, ◌≤◌, [], length}
use Rattle.policy.specs.Meant.{prefixes_of}
use Rattle.policy_items.specs.Items.{prefixes}
use Rattle.text_tokens.specs.Meant.{left}
use Rattle.policy_items.proofs.lists.prefix_list.Given as goal

-- the prefixes so far and those that are left are all prefixes
abbrev pub invariant-loop-prefix : goal.invariant-loop-prefix
invariant-loop-prefix l = (prefixes (63 - length (prefixes_of l.list)) (prefixes_of l.list) (left l.reader) ≡ prefixes 63 [] (left l.initial.reader)) × (length (prefixes_of l.list) ≤ 63)

abbrev pub decreases-loop-prefix : goal.decreases-loop-prefix
decreases-loop-prefix l = 64 - length (prefixes_of l.list)
