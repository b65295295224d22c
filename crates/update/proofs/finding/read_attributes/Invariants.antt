use Rattle.std.proofs.Common.{◌≡◌, length}
use Rattle.attributes.specs.Meant.{peer_of}
use Rattle.update.specs.Finding.{find_all, nothing_found}
use Rattle.update.specs.Meant.{found_of}
use Rattle.update.proofs.finding.read_attributes.Given as goal

-- what is left decides, with what was found so far
abbrev pub invariant-loop-rest : goal.invariant-loop-rest
invariant-loop-rest l = find_all (peer_of l.peer) (found_of l.found) l.rest ≡ find_all (peer_of l.peer) nothing_found l.attributes

abbrev pub decreases-loop-rest : goal.decreases-loop-rest
decreases-loop-rest l = length l.rest
