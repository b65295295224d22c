use Rattle.std.proofs.Common.{sym, ◌∙◌}
use Rattle.frame.specs.Settings.{exchange}
use Rattle.speaker.proofs.Steps.{member_outside}
use Rattle.speaker.proofs.Speaker.member.Goals as goal

pub returns-in-None : goal.returns-in-None
returns-in-None g c = member_outside (exchange c.args.self.now.settings) c.args.peer (sym c.peer.ensures ∙ c.in-None.is)
