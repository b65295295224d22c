use Rattle.std.proofs.Common.{refl, rules}
use Rattle.peers.specs.Members.{is_member}
use Rattle.session.specs.Session.{down}
use Rattle.sessions.proofs.Rows.{changed}
use Rattle.speaker.proofs.Steps.{goes_down}
use Rattle.speaker.specs.State.{state_of}
use Rattle.speaker.proofs.Speaker.go_down.Goals as goal

pub returns : goal.returns
returns g c =
    goes_down g.O.Output.writes (state_of g.R.Rib.received c.args.self.now) (state_of g.R.Rib.received (record { settings = c.args.self.now.settings; sessions = c.change.new.self; server = c.take_down.new.self; outbox = c.take_down.new.sink; spare = c.args.self.now.spare })) c.args.peer (is_member c.only.result) refl c.take_down.ensures.same_size
    (changed (λ s. down) (λ before after k. search rules) c.change.ensures) c.only.ensures c.requires c.take_down.ensures.promise
