use Rattle.std.proofs.Common.{true, false, Some, sym, refl, ◌∙◌}
use Rattle.model.specs.Model.{Announces}
use Rattle.peers.specs.Members.{is_member}
use Rattle.prefix.proofs.Order.{bounded}
use Rattle.prefix.specs.Meant.{meant}
use Rattle.prefix.specs.Prefix.{number}
use Rattle.route.specs.Meant.{route_of}
use Rattle.server.proofs.Promised.{parts, promised_ignored, promised_kept, promised_no_room, room_there}
use Rattle.server.proofs.Server.announce.Goals as goal

pub returns-then-not-hears : goal.returns-then-not-hears
returns-then-not-hears g c = record {
  same_size = refl;
  promise = promised_ignored g.P.PolicySource.imports g.P.PolicySource.exports g.S.Sink.sends (parts c.args.self.now.own_asn c.args.self.now.peers c.args.self.now.policies c.args.self.now.up (g.R.Rib.received c.args.self.now.rib)) c.args.sink.now (Announces c.args.peer (route_of c.args.route.now)) c.args.peer (number (meant c.args.route.now.prefix)) (Some (route_of c.args.route.now)) (record { begins_nothing = refl }) (λ s. refl) (sym c.if-not-hears.ensures);
}

pub returns-in-Ok : goal.returns-in-Ok
returns-in-Ok g c =
    let was = (parts c.args.self.now.own_asn c.args.self.now.peers c.args.self.now.policies c.args.self.now.up (g.R.Rib.received c.args.self.now.rib)) in
    let heard = sym c.if-not-hears.ensures in
    record {
      same_size = c.keep.ensures.same.1;
      promise =
          promised_kept g.P.PolicySource.imports g.P.PolicySource.exports g.S.Sink.sends was (parts c.keep.new.self.own_asn c.keep.new.self.peers c.keep.new.self.policies c.keep.new.self.up (g.R.Rib.received c.keep.new.self.rib)) c.args.sink.now c.keep.new.sink (Announces c.args.peer (route_of c.args.route.now)) c.args.peer (number (meant c.args.route.now.prefix)) (Some (route_of c.args.route.now)) (record { begins_nothing = refl }) (λ s. refl) heard (bounded (meant c.args.route.now.prefix) c.args.route.now.prefix.valid)
          (room_there g.P.PolicySource.imports g.P.PolicySource.exports g.S.Sink.sends was c.args.peer (number (meant c.args.route.now.prefix)) (Some (route_of c.args.route.now)) true (sym c.in-Ok.ensures.fits) heard)
          c.keep.ensures.same.0 c.keep.ensures.same.2 c.keep.ensures.up c.in-Ok.ensures.after;
    }

pub returns-in-Err : goal.returns-in-Err
returns-in-Err g c =
    let was = (parts c.args.self.now.own_asn c.args.self.now.peers c.args.self.now.policies c.args.self.now.up (g.R.Rib.received c.args.self.now.rib)) in
    let heard = sym c.if-not-hears.ensures in
    let same = c.keep.ensures.same in
    let after = c.in-Err.ensures.after in
    record {
      same_size = c.silence.ensures.same.1 ∙ same.1;
      promise =
          promised_no_room g.P.PolicySource.imports g.P.PolicySource.exports g.S.Sink.sends was (parts c.keep.new.self.own_asn c.keep.new.self.peers c.keep.new.self.policies c.keep.new.self.up (g.R.Rib.received c.keep.new.self.rib)) (parts c.silence.new.self.own_asn c.silence.new.self.peers c.silence.new.self.policies c.silence.new.self.up (g.R.Rib.received c.silence.new.self.rib)) c.args.sink.now c.keep.new.sink c.silence.new.sink (Announces c.args.peer (route_of c.args.route.now)) c.args.peer (number (meant c.args.route.now.prefix)) (Some (route_of c.args.route.now)) (is_member c.only.result) (record { begins_nothing = refl }) (λ s. refl) heard (bounded (meant c.args.route.now.prefix) c.args.route.now.prefix.valid)
          (room_there g.P.PolicySource.imports g.P.PolicySource.exports g.S.Sink.sends was c.args.peer (number (meant c.args.route.now.prefix)) (Some (route_of c.args.route.now)) false (sym c.in-Err.ensures.fits) heard)
          c.only.ensures
          (λ k. record { own = same.0 k; peers = same.1 k; policies = same.2 k; up = c.keep.ensures.up k; received = λ j q. after.0 j q k })
          after.1 c.silence.ensures.same.0 c.silence.ensures.same.2 c.silence.ensures.after;
    }
