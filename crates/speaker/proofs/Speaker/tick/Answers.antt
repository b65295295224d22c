use Rattle.std.proofs.Common.{◌≡◌, true, false, sym, refl, subst}
use Rattle.model.specs.Chain.{Chain}
use Rattle.outbox.specs.Outbox.{Puts, box_of}
use Rattle.peers.specs.Members.{is_member}
use Rattle.speaker.proofs.Ticks.{few_taken, none_down, some_down, ticks}
use Rattle.speaker.specs.State.{state_of}
use Rattle.speaker_model.specs.World.{any_below, down_frames}
use Rattle.speaker.proofs.Speaker.tick.Goals as goal

pub returns-then-any_below : goal.returns-then-any_below
returns-then-any_below g c =
    let W = g.O.Output.writes in
    let s = state_of g.R.Rib.received c.args.self.now in
    let t = state_of g.R.Rib.received (record { settings = c.args.self.now.settings; sessions = c.tick-silent.new.self; server = c.take_down.new.self; outbox = c.take_down.new.sink; spare = c.args.self.now.spare }) in
    let set = is_member c.tick-silent.result in
    let many = c.peer_count-peers.ensures in
    ticks W s t set c.end_sessions.new.outbox (few_taken c.args.self.now.settings.count c.args.self.now.settings.peers c.args.self.now.settings.few) c.tick-silent.ensures.silent refl c.take_down.ensures.same_size c.tick-silent.ensures.sessions
    (subst (λ n. Chain (Puts W) (box_of s.outbox) (down_frames 13 set n) (box_of c.end_sessions.new.outbox)) many c.end_sessions.ensures)
    (some_down W s t.now set c.end_sessions.new.outbox t.outbox (subst (λ n. any_below n set ≡ true) many (sym c.if-any_below.ensures)) c.take_down.ensures.promise)

pub returns-else-any_below : goal.returns-else-any_below
returns-else-any_below g c =
    let W = g.O.Output.writes in
    let s = state_of g.R.Rib.received c.args.self.now in
    let t = state_of g.R.Rib.received (record { settings = c.args.self.now.settings; sessions = c.tick-silent.new.self; server = c.args.self.now.server; outbox = c.end_sessions.new.outbox; spare = c.args.self.now.spare }) in
    let set = is_member c.tick-silent.result in
    let many = c.peer_count-peers.ensures in
    ticks W s t set c.end_sessions.new.outbox (few_taken c.args.self.now.settings.count c.args.self.now.settings.peers c.args.self.now.settings.few) c.tick-silent.ensures.silent refl refl c.tick-silent.ensures.sessions
    (subst (λ n. Chain (Puts W) (box_of s.outbox) (down_frames 13 set n) (box_of c.end_sessions.new.outbox)) many c.end_sessions.ensures)
    (none_down W s set c.end_sessions.new.outbox (subst (λ n. any_below n set ≡ false) many (sym c.if-any_below.ensures)))
