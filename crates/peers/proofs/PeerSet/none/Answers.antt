use Rattle.std.proofs.Common.{false, arith}
use Rattle.std.proofs.lemmas.Bool.Decides.{nat_tests}
use Rattle.peers.proofs.Flags.{filled}
use Rattle.peers.proofs.PeerSet.none.Goals as goal

pub returns : goal.returns
returns c = λ i. let all = filled 64 false i in grind (arith, nat_tests)
