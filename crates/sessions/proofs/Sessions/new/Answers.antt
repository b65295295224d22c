use Rattle.sessions.proofs.Rows.{filled}
use Rattle.sessions.proofs.Sessions.new.Goals as goal

pub returns : goal.returns
returns c i = filled 256 i c.new.result c.new.ensures
