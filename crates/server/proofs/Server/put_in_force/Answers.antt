use Rattle.server.proofs.Promised.{parts, promised_replaced}
use Rattle.server.proofs.Server.put_in_force.Goals as goal

pub returns : goal.returns
returns g c =
    let same = c.replace.ensures.same in
    let policies = c.replace.ensures.policies in
    record {
      same_size = same.1;
      old = policies.1;
      promise = promised_replaced g.P.PolicySource.imports g.P.PolicySource.exports g.S.Sink.sends (parts c.args.self.now.own_asn c.args.self.now.peers c.args.self.now.policies c.args.self.now.up (g.R.Rib.received c.args.self.now.rib)) (parts c.replace.new.self.own_asn c.replace.new.self.peers c.replace.new.self.policies c.replace.new.self.up (g.R.Rib.received c.replace.new.self.rib)) c.args.sink.now c.replace.new.sink c.args.policies.now same.0 policies.0 same.2 c.replace.ensures.after;
    }
