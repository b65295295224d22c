use Rattle.std.proofs.Common.{rules}
use Rattle.std.proofs.lemmas.List.{take_more_set}
use Rattle.frame.proofs.Peers.{peers_none, peers_more}
use Rattle.frame.proofs.settings.content.settings_at.Goals as goal

pub loop-i-init : goal.loop-i-init
loop-i-init c = search (rules, peers_none)

pub loop-i-preserved : goal.loop-i-preserved
loop-i-preserved c = search (rules, take_more_set, peers_more)
