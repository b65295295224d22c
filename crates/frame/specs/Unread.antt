-- What is made of bytes that begin with no frame with all its bytes. Assumes nothing.
use Rattle.std.specs.Prelude.{Some, None, Option}
use Rattle.frame.specs.Size.{Begins, framed, too_long, partial, unknown}
use Rattle.frame.specs.declared.event.Defect.TheVariants.{UnknownKind}
use Rattle.frame.specs.declared.event.Refusal.{Refusal}
use Rattle.frame.specs.declared.event.Unread.{Unread}
use Rattle.frame.specs.declared.event.Unread.TheVariants.{Refused, More, Unreadable}

-- a frame that is too long is refused for `long`
abbrev pub unread_by : Refusal → Begins → Option Unread
unread_by long (framed k frame) = None
unread_by long (too_long n) = Some (Refused long n)
unread_by long partial = Some More
unread_by long unknown = Some (Unreadable UnknownKind)
