use Rattle.model.proofs.Chains.{one}
use Rattle.outbox.specs.Outbox.{Puts}
use Rattle.speaker.proofs.Steps.{before}
use Rattle.speaker.specs.State.{state_of}
use Rattle.speaker.proofs.Speaker.end.Goals as goal

pub returns : goal.returns
returns g c =
    before g.O.Output.writes (state_of g.R.Rib.received c.args.self.now) (state_of g.R.Rib.received c.go_down.new.self) c.close.new.self _ _ _ (λ _. one (Puts g.O.Output.writes) _ _ _ c.close.ensures) c.go_down.ensures
