use Rattle.std.proofs.Common.{◌≡◌, length}
use Rattle.wire.specs.Meant.{named_of}
use Rattle.wire.proofs.nlri.Prefixes.next.Given as goal

-- no prefix so far
abbrev pub invariant-loop-size : goal.invariant-loop-size
invariant-loop-size l = named_of l.self ≡ named_of l.initial.self

abbrev pub decreases-loop-size : goal.decreases-loop-size
decreases-loop-size l = length l.self.rest.now
