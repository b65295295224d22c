use Rattle.std.proofs.Common.{◌≡◌, ◌-◌, ◌≤◌}
use Rattle.prefix.specs.Prefix.{count}
use Rattle.rib.specs.Received.{count_of}
use Rattle.update_events.proofs.Saying.needed.Given as goal
use Rattle.update_events.specs.Saying.{needs_for}

-- the prefixes below `from` are counted
abbrev pub invariant-loop-prefix : goal.invariant-loop-prefix
invariant-loop-prefix g l = record {
  counted : l.places ≡ count_of l.from (needs_for l.self (g.R.Rib.received l.rib));
  few : l.places ≤ l.from;
  known : l.from ≤ count;
}

abbrev pub decreases-loop-prefix : goal.decreases-loop-prefix
decreases-loop-prefix g l = count - l.from
