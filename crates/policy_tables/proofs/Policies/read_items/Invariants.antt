use Rattle.std.proofs.Common.{◌≡◌, ◌-◌}
use Rattle.policy_tables.specs.Meant.{IsLevel, draft_of}
use Rattle.policy_tables.specs.Texts.{items, outcome}
use Rattle.text_tokens.specs.Meant.{left}
use Rattle.policy_tables.proofs.Policies.read_items.Given as goal

-- what was read and what is left is the whole text
abbrev pub invariant-loop-item : goal.invariant-loop-item
invariant-loop-item l =
    (outcome (items (192 - l._item) l.unread.peers (draft_of l.self l.unread) (left l.unread.reader)) ≡ outcome (items 192 l.initial.unread.peers (draft_of l.initial.self l.initial.unread) (left l.initial.unread.reader)))
    × IsLevel (draft_of l.self l.unread)
