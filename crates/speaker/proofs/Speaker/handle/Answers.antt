use Rattle.frame.specs.Frame.{happening}
use Rattle.speaker.proofs.Lift.{lifts}
use Rattle.speaker.proofs.Speaker.handle.Goals as goal
use Rattle.speaker.proofs.Starts.{promised}
use Rattle.speaker.specs.State.{state_of}

pub returns : goal.returns
returns g c =
    let W = g.O.Output.writes in
    let h = happening c.args.event in
    let s = state_of g.R.Rib.received c.args.self.now in
    let t = state_of g.R.Rib.received c.step-refusal.new.self in
    let u = state_of g.R.Rib.received c.finish.new.self in
    record {
      promise = promised W h s u c.fit_law.ensures.0 c.fit_law.ensures.1 ((lifts W h).lift s t u c.begin.new.self c.begin.ensures c.step-refusal.ensures.step c.finish.ensures);
      answer = c.step-refusal.ensures.answer;
    }
