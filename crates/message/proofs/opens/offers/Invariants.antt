use Rattle.std.proofs.Common.{◌≡◌, ℕ, length, Bool, List, Option}
use Rattle.message.specs.Open.{offers, offers_after, Says}
use Rattle.message.proofs.opens.offers.Given as goal

-- what is left decides, with what was found so far
abbrev pub invariant-loop-rest : goal.invariant-loop-rest
invariant-loop-rest g l = (says : List ℕ → Option Bool) → Says g.F.Fn l.offer says → offers_after says l.found l.rest ≡ offers says l.fields

abbrev pub decreases-loop-rest : goal.decreases-loop-rest
decreases-loop-rest g l = length l.rest
