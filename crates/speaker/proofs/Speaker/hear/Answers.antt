use Rattle.std.proofs.Common.{refl, rules}
use Rattle.session.specs.Session.{heard_now}
use Rattle.sessions.proofs.Rows.{changed}
use Rattle.speaker.proofs.Steps.{goes_on}
use Rattle.speaker.specs.State.{state_of}
use Rattle.speaker.proofs.Speaker.hear.Goals as goal

pub returns : goal.returns
returns g c =
    goes_on g.O.Output.writes (state_of g.R.Rib.received c.args.self.now) (state_of g.R.Rib.received (record { settings = c.args.self.now.settings; sessions = c.change.new.self; server = c.args.self.now.server; outbox = c.args.self.now.outbox; spare = c.args.self.now.spare })) _ refl refl refl refl
    (changed heard_now (λ before after k. search rules) c.change.ensures)
