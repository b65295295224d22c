use Rattle.std.proofs.Common.{refl, arith}
use Rattle.server.proofs.Promised.{parts, stands_at_start}
use Rattle.server.proofs.Server.new.Goals as goal

pub returns : goal.returns
returns g c = (refl, omega arith, λ empty. stands_at_start g.P.PolicySource.imports g.P.PolicySource.exports {S = Unit {0}} (λ s u t. Unit {0}) (parts c.args.own_asn c.args.peers c.args.policies c.none.result (g.R.Rib.received c.args.rib)) (omega arith) c.none.ensures empty)
