use Rattle.std.proofs.Common.{refl, rules}
use Rattle.model.proofs.Chains.{one}
use Rattle.outbox.specs.Outbox.{Puts}
use Rattle.session.specs.Session.{established}
use Rattle.sessions.specs.Sessions.{sessions_of}
use Rattle.sessions.proofs.Rows.{changed}
use Rattle.speaker.proofs.Steps.{comes_up, before}
use Rattle.speaker.specs.State.{state_of}
use Rattle.speaker.proofs.Speaker.establish.Goals as goal

pub returns : goal.returns
returns g c =
    let s = state_of g.R.Rib.received (record { settings = c.args.self.now.settings; sessions = c.args.self.now.sessions; server = c.args.self.now.server; outbox = c.keepalive.new.self; spare = c.args.self.now.spare }) in
    let t = state_of g.R.Rib.received (record { settings = c.args.self.now.settings; sessions = c.change.new.self; server = c.establish.new.self; outbox = c.establish.new.sink; spare = c.args.self.now.spare }) in
    before g.O.Output.writes (state_of g.R.Rib.received c.args.self.now) t c.keepalive.new.self _ _ _ (λ _. one (Puts g.O.Output.writes) _ _ _ c.keepalive.ensures)
    (comes_up g.O.Output.writes _ s t c.args.peer (established (sessions_of c.args.self.now.sessions c.args.peer)) c.establish.result refl c.establish.ensures.same_size
    (changed established (λ before after k. search rules) c.change.ensures)
    c.requires c.establish.ensures.answer c.establish.ensures.promise)
