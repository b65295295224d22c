use Rattle.std.proofs.Common.{None, sym, refl}
use Rattle.model.specs.Model.{Withdraws}
use Rattle.prefix.proofs.Order.{bounded}
use Rattle.prefix.specs.Meant.{meant}
use Rattle.prefix.specs.Prefix.{number}
use Rattle.server.proofs.Promised.{parts, promised_ignored, promised_kept, room_withdrawn}
use Rattle.server.proofs.Server.withdraw.Goals as goal

pub returns-then-hears : goal.returns-then-hears
returns-then-hears g c =
    let was = (parts c.args.self.now.own_asn c.args.self.now.peers c.args.self.now.policies c.args.self.now.up (g.R.Rib.received c.args.self.now.rib)) in
    let same = c.forget.ensures.same in
    record {
      same_size = same.1;
      promise =
          promised_kept g.P.PolicySource.imports g.P.PolicySource.exports g.S.Sink.sends was (parts c.forget.new.self.own_asn c.forget.new.self.peers c.forget.new.self.policies c.forget.new.self.up (g.R.Rib.received c.forget.new.self.rib)) c.args.sink.now c.forget.new.sink (Withdraws c.args.peer (number (meant c.args.prefix))) c.args.peer (number (meant c.args.prefix)) None (record { begins_nothing = refl }) (λ s. refl) (sym c.if-hears.ensures) (bounded (meant c.args.prefix) c.args.prefix.valid)
          (room_withdrawn g.P.PolicySource.imports g.P.PolicySource.exports g.S.Sink.sends was c.args.peer (number (meant c.args.prefix))) same.0 same.2 c.forget.ensures.up c.forget.ensures.after;
    }

pub returns-else-hears : goal.returns-else-hears
returns-else-hears g c = record {
  same_size = refl;
  promise = promised_ignored g.P.PolicySource.imports g.P.PolicySource.exports g.S.Sink.sends (parts c.args.self.now.own_asn c.args.self.now.peers c.args.self.now.policies c.args.self.now.up (g.R.Rib.received c.args.self.now.rib)) c.args.sink.now (Withdraws c.args.peer (number (meant c.args.prefix))) c.args.peer (number (meant c.args.prefix)) None (record { begins_nothing = refl }) (λ s. refl) (sym c.if-hears.ensures);
}
