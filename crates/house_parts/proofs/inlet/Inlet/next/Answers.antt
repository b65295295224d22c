use Rattle.std.proofs.Common.{rules}
use Rattle.house_parts.proofs.inlet.Inlet.next.Goals as goal

pub returns-in-Refused : goal.returns-in-Refused
returns-in-Refused g c = (c.advance-step.new.intake, c.advance-step.new.taken, search rules)

pub returns-in-Unreadable : goal.returns-in-Unreadable
returns-in-Unreadable g c = (c.advance-step.new.intake, c.advance-step.new.taken, search rules)

pub returns-in-Settings : goal.returns-in-Settings
returns-in-Settings g c = (c.advance-step.new.intake, c.advance-step.new.taken, search rules)
