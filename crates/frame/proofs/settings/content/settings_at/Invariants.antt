use Rattle.std.proofs.Common.{◌≡◌, length, take}
use Rattle.frame.specs.Settings.{peers_at}
use Rattle.frame.proofs.settings.content.settings_at.Given as goal

abbrev pub invariant-loop-i : goal.invariant-loop-i
invariant-loop-i l = (length l.peers ≡ 64) × (take l.i l.peers ≡ peers_at l.frame l.i)
