-- The bytes of the messages that are put out. Assumes nothing.
use Rattle.std.specs.Prelude.{ℕ, List}
use Rattle.fault.specs.Fault.{code}
use Rattle.message_write.specs.Written.{keepalive_bytes, notification_bytes, open_bytes, withdrawal_bytes, announcement_bytes}
use Rattle.outbox.specs.declared.framing.Message.{Message}
use Rattle.outbox.specs.declared.framing.Message.TheVariants.{Open, Keepalive, Notification, Withdrawal, Announcement}
use Rattle.prefix.specs.Meant.{meant}
use Rattle.route.specs.Meant.{route_of}

-- by the server's own network and address
abbrev pub bytes_of : ℕ → ℕ → Message → List ℕ
bytes_of own address Open = open_bytes own address
bytes_of own address Keepalive = keepalive_bytes
bytes_of own address (Notification f) = notification_bytes (code f)
bytes_of own address (Withdrawal p) = withdrawal_bytes (meant p)
bytes_of own address (Announcement r) = announcement_bytes (route_of r) address
