use Rattle.std.proofs.Common.{◌≡◌, length}
use Rattle.wire.specs.Nlri.{checked, checked_after}
use Rattle.wire.proofs.nlri.check_prefixes.Given as goal

-- what is left decides, with what was met so far
abbrev pub invariant-loop-rest : goal.invariant-loop-rest
invariant-loop-rest l = checked_after l.invalid l.rest ≡ checked l.part

abbrev pub decreases-loop-rest : goal.decreases-loop-rest
decreases-loop-rest l = length l.rest
