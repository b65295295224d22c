-- What the code's session stands for. Assumes nothing.
use Rattle.session.specs.declared.Session.{Session as Stored}
use Rattle.session.specs.Session.{Session}

abbrev pub session_of : Stored → Session
session_of s = record { phase = s.phase; heard = s.heard; sent = s.sent }
