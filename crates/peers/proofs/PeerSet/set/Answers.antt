use Rattle.std.proofs.Common.{false, arith}
use Rattle.std.proofs.lemmas.Bool.Decides.{nat_tests}
use Rattle.std.proofs.lemmas.List.{get_or_past}
use Rattle.peers.proofs.Flags.{written}
use Rattle.peers.proofs.PeerSet.set.Goals as goal

pub returns-then-place-lt64 : goal.returns-then-place-lt64
returns-then-place-lt64 c = λ i. let changed = written c.args.self.now.members c.args.peer i c.args.member in grind (arith, nat_tests)

pub returns-else-place-lt64 : goal.returns-else-place-lt64
returns-else-place-lt64 c = λ i. let past = get_or_past c.args.self.now.members i false in grind (arith, nat_tests)
