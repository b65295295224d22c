-- What a peer holds that reads the messages carried to it and does as it is told. Assumes nothing.
use Rattle.std.specs.Prelude.{ℕ, cond, List, [], ◌∷◌, Some, None, Option, ◌==◌, slice_index}
use Rattle.attributes.specs.AsPath.{Reading, got, fault, path_in}
use Rattle.attributes.specs.Meaning.{Peer}
use Rattle.message.specs.Header.{kind_of}
use Rattle.message.specs.Message.{Message, Opens, Updates, Notifies, KeepsAlive, read_message}
use Rattle.message.specs.declared.Kind.{Kind}
use Rattle.message.specs.declared.Kind.TheVariants as a_kind
use Rattle.message.specs.declared.State.TheVariants.{Established}
use Rattle.model.specs.Updates.{Held, nothing}
use Rattle.outbox.specs.Frames.{Frame, Carries, Closes}
use Rattle.prefix.specs.Prefix.{Prefix, number}
use Rattle.route.specs.Route.{Route}
use Rattle.update.specs.Sections.{withdrawn_in, announced_in}
use Rattle.update.specs.Update.{Attributes, Content, Announces, Withdraws, Faulty, attributes_of, value_at}
use Rattle.wire.specs.Nlri.{named}

-- what one peer holds, by the number of the prefix
abbrev pub Row : Type 0
Row = ℕ → Option Route

-- the server as the reader of a message of it sees it: its address is the server's. A reader takes a path to begin with the network of the one that sends it; a member of an exchange doesn't ask that of a route server, since
-- an export policy may have prepended another network than the server's own. So the network is the first of the path in the message itself
abbrev pub server_in : ℕ → List ℕ → Peer
server_in address m = record { asn = slice_index (path_in (value_at 2 (attributes_of m))) 0; address = address }

-- of these prefixes this is held now, and of all others what was
unfoldable pub changed : (Prefix → Option Route) → List Prefix → Row → Row
changed said [] row p = row p
changed said (q ∷ qs) row p = cond (p == number q) (said q) (changed said qs row p)

-- of an announced prefix: the route by what is read of the message. Local preference isn't sent
abbrev pub route_by : Attributes → Prefix → Option Route
route_by a q = Some (record { prefix = q; path = a.path; local_pref = 0; med = a.med; communities = a.communities })

-- of a withdrawn prefix
abbrev pub no_route : Prefix → Option Route
no_route q = None

-- an UPDATE without a fault is followed: of its withdrawn prefixes there is no route, of its announced ones there is this; one with a fault changes nothing
abbrev pub followed : List ℕ → Content → Row → Row
followed m (Announces a) row p = changed (route_by a) (named (announced_in m)) (changed no_route (named (withdrawn_in m)) row) p
followed m Withdraws row p = changed no_route (named (withdrawn_in m)) row p
followed m (Faulty k) row p = row p

abbrev pub followed_message : List ℕ → Message → Row → Row
followed_message m (Opens o) row p = row p
followed_message m (Updates c) row p = followed m c row p
followed_message m (Notifies code subcode) row p = row p
followed_message m KeepsAlive row p = row p

abbrev pub followed_reading : List ℕ → Reading Message → Row → Row
followed_reading m (got message) row p = followed_message m message row p
followed_reading m (fault k) row p = row p

-- an OPEN begins a new session, in which nothing is held; an UPDATE is read and followed; all else changes nothing
abbrev pub hears_as : ℕ → List ℕ → Option Kind → Row → Row
hears_as address m None row p = row p
hears_as address m (Some a_kind.Open) row p = None
hears_as address m (Some a_kind.Update) row p = followed_reading m (read_message Established (server_in address m) m) row p
hears_as address m (Some a_kind.Notification) row p = row p
hears_as address m (Some a_kind.Keepalive) row p = row p

-- what a message makes of what a peer holds, that comes from the server of that address
unfoldable pub hears : ℕ → List ℕ → Row → Row
hears address m row p = hears_as address m (kind_of m) row p

-- what a frame makes of what all peers hold: a message is heard by its peer alone
abbrev pub hears_frame : ℕ → Frame → Held → Held
hears_frame address (Carries i m) held j p = cond (j == i) (hears address m (held j) p) (held j p)
hears_frame address (Closes i) held j p = held j p

-- one frame after the other
unfoldable pub hears_all : ℕ → Held → List Frame → Held
hears_all address held [] = held
hears_all address held (f ∷ fs) = hears_all address (hears_frame address f held) fs

-- what peers hold by all frames that went out, in their order: at first nothing
abbrev pub held_by : ℕ → List Frame → Held
held_by address fs = hears_all address nothing fs
