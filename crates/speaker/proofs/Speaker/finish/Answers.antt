use Rattle.std.proofs.Common.{sym, refl, ap, ◌∙◌, subst}
use Rattle.frame.specs.Frame.{happening}
use Rattle.model.specs.Chain.{Chain}
use Rattle.outbox.specs.Outbox.{Puts, box_of}
use Rattle.peers.specs.Members.{is_member}
use Rattle.sessions.specs.Sessions.{sent_to, sessions_of}
use Rattle.speaker.proofs.Ticks.{finishes, finishes_tick}
use Rattle.speaker.specs.State.{state_of}
use Rattle.speaker_model.specs.World.{keepalives}
use Rattle.speaker.proofs.Speaker.finish.Goals as goal

pub returns-then-is_tick : goal.returns-then-is_tick
returns-then-is_tick g c =
    let W = g.O.Output.writes in
    let s = state_of g.R.Rib.received c.args.self.now in
    let t = state_of g.R.Rib.received (record { settings = c.args.self.now.settings; sessions = c.sent_to-then-is_tick.new.self; server = c.args.self.now.server; outbox = c.keep_alive.new.outbox; spare = c.args.self.now.spare }) in
    let noted = sessions_of c.sent_to.new.self in
    finishes_tick W (happening c.args.event) s t noted (sym c.if-is_tick.ensures) refl refl refl
    (λ i. c.sent_to.ensures i ∙ ap (λ p. sent_to (is_member p) s.sessions i) c.reached-2.ensures) (λ i past. ap (λ p. is_member p i) (sym c.reached.ensures) ∙ c.outside_law.ensures i past)
    (subst (λ n. Chain (Puts W) (box_of s.outbox) (keepalives noted n) (box_of t.outbox)) c.peer_count.ensures c.keep_alive.ensures)
    (λ i. c.sent_to-then-is_tick.ensures i ∙ ap (λ p. sent_to (is_member p) noted i) c.reached-then-is_tick.ensures)

pub returns-else-is_tick : goal.returns-else-is_tick
returns-else-is_tick g c =
    let s = state_of g.R.Rib.received c.args.self.now in
    let t = state_of g.R.Rib.received (record { settings = c.args.self.now.settings; sessions = c.sent_to.new.self; server = c.args.self.now.server; outbox = c.args.self.now.outbox; spare = c.args.self.now.spare }) in
    finishes g.O.Output.writes (happening c.args.event) s t (sym c.if-is_tick.ensures) refl refl refl refl (λ i. c.sent_to.ensures i ∙ ap (λ p. sent_to (is_member p) s.sessions i) c.reached-2.ensures)
