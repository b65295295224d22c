use Rattle.std.proofs.Common.{sym, refl, ap, ◌∙◌, arith, rules}
use Rattle.session.specs.Session.{is_down, opened}
use Rattle.sessions.proofs.Rows.{changed}
use Rattle.speaker.proofs.Steps.{up_busy, up_opens, up_unknown}
use Rattle.speaker.specs.State.{state_of}
use Rattle.speaker.proofs.Speaker.connect.Goals as goal

pub returns-then-peer-peer_count : goal.returns-then-peer-peer_count
returns-then-peer-peer_count g c = up_unknown g.O.Output.writes (state_of g.R.Rib.received c.args.self.now) c.args.peer (omega (arith, c.if-peer-peer_count.true, c.peer_count.ensures))

pub returns-then-not-is_down : goal.returns-then-not-is_down
returns-then-not-is_down g c = up_busy g.O.Output.writes (state_of g.R.Rib.received c.args.self.now) c.args.peer (omega (arith, c.if-peer-peer_count.false, c.peer_count.ensures)) (ap is_down (sym c.get.ensures) ∙ sym c.if-not-is_down.ensures)

pub returns : goal.returns
returns g c =
    let s = state_of g.R.Rib.received c.args.self.now in
    let t = state_of g.R.Rib.received (record { settings = c.args.self.now.settings; sessions = c.change.new.self; server = c.args.self.now.server; outbox = c.open.new.self; spare = c.args.self.now.spare }) in
    up_opens g.O.Output.writes s t c.args.peer (omega (arith, c.if-peer-peer_count.false, c.peer_count.ensures)) (ap is_down (sym c.get.ensures) ∙ sym c.if-not-is_down.ensures) refl refl refl
    (changed opened (λ before after k. search rules) c.change.ensures) c.open.ensures
