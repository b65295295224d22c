use Rattle.speaker.proofs.Steps.{before}
use Rattle.speaker.specs.State.{state_of}
use Rattle.speaker.proofs.Speaker.fail.Goals as goal

pub returns : goal.returns
returns g c =
    before g.O.Output.writes (state_of g.R.Rib.received c.args.self.now) (state_of g.R.Rib.received c.go_down.new.self) c.end_session.new.outbox _ _ _ (λ _. c.end_session.ensures) c.go_down.ensures
