-- What the code's values stand for. Assumes nothing.
use Rattle.message.specs.Message.{Message, Opens, Updates, Notifies, KeepsAlive}
use Rattle.message.specs.Open.{Open}
use Rattle.message.specs.declared.Message.{Message as StoredMessage}
use Rattle.message.specs.declared.Message.TheVariants as a_message
use Rattle.message.specs.declared.Open.{Open as StoredOpen}
use Rattle.update.specs.Meant.{content_meant}

abbrev pub open_of : StoredOpen → Open
open_of o = record { hold_time = o.hold_time; identifier = o.identifier }

abbrev pub message_of : StoredMessage → Message
message_of (a_message.Open o) = Opens (open_of o)
message_of (a_message.Update c) = Updates (content_meant c)
message_of (a_message.Notification c s) = Notifies c s
message_of a_message.Keepalive = KeepsAlive
