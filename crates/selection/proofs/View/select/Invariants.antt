use Rattle.std.proofs.Common.{◌≡◌, ◌-◌, ◌≤◌}
use Rattle.prefix.specs.Meant.{meant}
use Rattle.prefix.specs.Prefix.{number}
use Rattle.selection.specs.Intended.{selected}
use Rattle.selection.specs.Meant.{candidate_of, heard_seen, rules_seen}
use Rattle.std.specs.Option.{option_map}
use Rattle.selection.proofs.View.select.Given as goal

-- the best so far is the best of the peers below `from`
abbrev pub invariant-loop-peer : goal.invariant-loop-peer
invariant-loop-peer g l =
    (option_map candidate_of l.best ≡ selected (rules_seen g.P.PolicySource l.self) (heard_seen g.R.Rib l.self) (number (meant l.prefix)) l.from) ×
    (l.from ≤ l.peers)

abbrev pub decreases-loop-peer : goal.decreases-loop-peer
decreases-loop-peer g l = l.peers - l.from
