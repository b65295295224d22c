-- Messages, and what can be wrong with them. Assumes nothing.
use Rattle.std.specs.Prelude.{ℕ, List, Some, None, Option, slice_index}
use Rattle.attributes.specs.AsPath.{Reading, got, fault}
use Rattle.attributes.specs.Meaning.{Peer}
use Rattle.message.specs.Header.{kind_of}
use Rattle.message.specs.Open.{Open, read_open}
use Rattle.message.specs.declared.State.{State}
use Rattle.message.specs.declared.State.TheVariants.{OpenSent, Established}
use Rattle.wire.specs.declared.kinds.Kind.{Kind}
use Rattle.wire.specs.declared.kinds.Kind.TheVariants as a_kind
use Rattle.update.specs.Update.{Content, read_update}

-- a NOTIFICATION has a code and a subcode
pub data Message : Type 0 where
  Opens : Open → Message
  Updates : Content → Message
  Notifies : ℕ → ℕ → Message
  KeepsAlive : Message

abbrev pub as_open : Reading Open → Reading Message
as_open (got o) = got (Opens o)
as_open (fault k) = fault k

abbrev pub as_update : Reading Content → Reading Message
as_update (got c) = got (Updates c)
as_update (fault k) = fault k

-- an OPEN is awaited until it has come; an UPDATE or a KEEPALIVE comes after it
abbrev pub read_body : State → Peer → List ℕ → Kind → Reading Message
read_body OpenSent peer m a_kind.Open = as_open (read_open peer m)
read_body Established peer m a_kind.Open = fault 2
read_body OpenSent peer m a_kind.Update = fault 3
read_body Established peer m a_kind.Update = as_update (read_update peer m)
read_body OpenSent peer m a_kind.Notification = got (Notifies (slice_index m 19) (slice_index m 20))
read_body Established peer m a_kind.Notification = got (Notifies (slice_index m 19) (slice_index m 20))
read_body OpenSent peer m a_kind.Keepalive = fault 3
read_body Established peer m a_kind.Keepalive = got KeepsAlive

abbrev pub read_as : State → Peer → List ℕ → Option Kind → Reading Message
read_as state peer m None = fault 1
read_as state peer m (Some t) = read_body state peer m t

-- the message, or the number of the fault that ends the reading
abbrev pub read_message : State → Peer → List ℕ → Reading Message
read_message state peer m = read_as state peer m (kind_of m)
