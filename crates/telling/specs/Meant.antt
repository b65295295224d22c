-- What a change stands for. Assumes nothing.
use Rattle.model.specs.Updates.{Held}
use Rattle.peers.specs.Members.{is_member}
use Rattle.rib.specs.declared.Rib.{Ghosts as Ribs}
use Rattle.selection.specs.Meant.{rules_in}
use Rattle.selection.specs.declared.Terms.{Terms}
use Rattle.selection.specs.declared.policies.PolicySource.{Ghosts as Sources}
use Rattle.telling.specs.Steps.{intended_by}
use Rattle.telling.specs.declared.Change.{Change}

-- what each peer should hold by some terms, and so before the change and after it
abbrev pub held_by : {R P : Type 0} → Ribs R → Sources P → Change R P → Terms P → Held
held_by rib source c terms = intended_by (rules_in source c.own_asn terms.policies.now) c.peers (is_member terms.silent) (rib.received c.rib.now)

abbrev pub held_before : {R P : Type 0} → Ribs R → Sources P → Change R P → Held
held_before rib source c = held_by rib source c c.before

abbrev pub held_after : {R P : Type 0} → Ribs R → Sources P → Change R P → Held
held_after rib source c = held_by rib source c c.after
