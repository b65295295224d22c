use Rattle.std.proofs.Common.{not, ltb, sym, arith}
use Rattle.peers.specs.Members.{is_member}
use Rattle.server.proofs.Promised.{parts, promised_welcomed}
use Rattle.std.proofs.lemmas.Bool.{and_from, lt-ltb, not_from_false}
use Rattle.server.proofs.Server.establish.Goals as goal

pub returns : goal.returns
returns g c =
    let same = c.welcome.ensures.same in
    record {
      same_size = same.1;
      answer = sym (and_from (ltb c.args.peer c.args.self.now.peers) (not (is_member c.args.self.now.up c.args.peer)) (lt-ltb c.args.peer c.args.self.now.peers (omega arith)) (not_from_false (is_member c.args.self.now.up c.args.peer) (sym c.if-contains.ensures)));
      promise = promised_welcomed g.P.PolicySource.imports g.P.PolicySource.exports g.S.Sink.sends (parts c.args.self.now.own_asn c.args.self.now.peers c.args.self.now.policies c.args.self.now.up (g.R.Rib.received c.args.self.now.rib)) (parts c.welcome.new.self.own_asn c.welcome.new.self.peers c.welcome.new.self.policies c.welcome.new.self.up (g.R.Rib.received c.welcome.new.self.rib)) c.args.sink.now c.welcome.new.sink c.args.peer (omega arith) (sym c.if-contains.ensures) same.0 same.2 c.welcome.ensures.after;
    }
