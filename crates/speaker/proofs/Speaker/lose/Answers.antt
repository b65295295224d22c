use Rattle.std.proofs.Common.{sym, ap, ◌∙◌}
use Rattle.session.specs.Session.{is_down}
use Rattle.speaker.proofs.Steps.{loss_idle}
use Rattle.speaker.specs.State.{state_of}
use Rattle.speaker.proofs.Speaker.lose.Goals as goal

pub returns-then-is_down : goal.returns-then-is_down
returns-then-is_down g c = loss_idle g.O.Output.writes (state_of g.R.Rib.received c.args.self.now) c.args.peer (ap is_down (sym c.get.ensures) ∙ sym c.if-is_down.ensures)
