-- The bytes of event frames. Assumes nothing.
use Rattle.std.specs.Prelude.{ℕ, List, [], ◌∷◌, ◌++◌, length}
use Rattle.peer_messages.specs.Messages.{bytes16, bytes32}

-- bytes that come from a peer
abbrev pub message_frame : ℕ → List ℕ → List ℕ
message_frame peer message = (1 ∷ peer ∷ []) ++ (bytes16 (length message) ++ message)

-- a connection that comes up, or breaks
abbrev pub connection_frame : ℕ → ℕ → List ℕ
connection_frame peer state = 2 ∷ peer ∷ state ∷ []

-- a policy text
abbrev pub text_frame : List ℕ → List ℕ
text_frame text = (4 ∷ []) ++ (bytes32 (length text) ++ text)

-- a network and an address, of a peer or the own
abbrev pub party_bytes : ℕ → ℕ → List ℕ
party_bytes asn address = bytes32 asn ++ bytes32 address
