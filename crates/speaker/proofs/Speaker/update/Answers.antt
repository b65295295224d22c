use Rattle.std.proofs.Common.{[], sym, refl, ap, ◌∙◌, subst, rules}
use Rattle.model.specs.Model.{at}
use Rattle.session.specs.Session.{heard_now}
use Rattle.sessions.specs.Sessions.{sessions_of}
use Rattle.sessions.proofs.Rows.{changed}
use Rattle.speaker.proofs.Steps.{goes_by}
use Rattle.speaker.specs.State.{Takes, state_of}
use Rattle.speaker_model.specs.Effects.{Effect, taken_down}
use Rattle.speaker_model.specs.World.{peer_step}
use Rattle.std.proofs.lemmas.Bool.{cond-false}
use Rattle.update.specs.Meant.{content_meant}
use Rattle.update_events.specs.Words.{lacks_room, words}
use Rattle.speaker.proofs.Speaker.update.Goals as goal

pub returns : goal.returns
returns g c =
    let W = g.O.Output.writes in
    let i = c.args.peer in
    let content = content_meant c.args.content in
    let m = c.args.message.now in
    let sessions = sessions_of c.args.self.now.sessions in
    let received = g.R.Rib.received c.args.self.now.server.rib in
    let s = state_of g.R.Rib.received c.args.self.now in
    let t = state_of g.R.Rib.received (record { settings = c.args.self.now.settings; sessions = c.change.new.self; server = c.say.new.server; outbox = c.say.new.sink; spare = c.args.self.now.spare }) in
    let room = ap (λ r. lacks_room i content m (g.R.Rib.received r)) (sym c.rib.ensures) ∙ sym c.if-lacks_room.ensures in
    subst (λ (e : Effect). Takes W (peer_step i e sessions) s t) (sym (cond-false (lacks_room i content m received) (taken_down i 9) (record { session = heard_now (sessions i); first = []; row = words i content m }) room))
    (goes_by W s t (at i (heard_now (sessions i)) sessions) (words i content m) refl c.say.ensures.same_size
    (changed heard_now (λ before after k. search rules) c.change.ensures) c.say.ensures.promise)
