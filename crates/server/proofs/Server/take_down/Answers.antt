use Rattle.peers.specs.Members.{is_member}
use Rattle.server.proofs.Promised.{parts, promised_silenced}
use Rattle.server.proofs.Server.take_down.Goals as goal

pub returns : goal.returns
returns g c =
    let same = c.silence.ensures.same in
    record {
      same_size = same.1;
      promise = promised_silenced g.P.PolicySource.imports g.P.PolicySource.exports g.S.Sink.sends (parts c.args.self.now.own_asn c.args.self.now.peers c.args.self.now.policies c.args.self.now.up (g.R.Rib.received c.args.self.now.rib)) (parts c.silence.new.self.own_asn c.silence.new.self.peers c.silence.new.self.policies c.silence.new.self.up (g.R.Rib.received c.silence.new.self.rib)) c.args.sink.now c.silence.new.sink (is_member c.args.down.now) same.0 same.2 c.silence.ensures.after;
    }
