-- The bytes of the messages that are sent. Assumes nothing.
use Rattle.std.specs.Prelude.{ℕ, ◌+◌, ◌*◌, ◌/◌, cond, List, [], ◌∷◌, ◌++◌, length, take, replicate, ◌==◌, nat_lt}
use Rattle.prefix.specs.Prefix.{Prefix}
use Rattle.route.specs.Route.{Route}
use Rattle.std.specs.List.{flat_map}
use Rattle.wire.specs.Bytes.{bytes16, bytes32}

-- 16 bytes of 255, the length of the whole message, and its kind
unfoldable pub header_bytes : ℕ → ℕ → List ℕ
header_bytes kind n = replicate 16 255 ++ (bytes16 n ++ (kind ∷ []))

-- a message of a kind: 1 is OPEN, 2 UPDATE, 3 NOTIFICATION and 4 KEEPALIVE
abbrev pub message_bytes : ℕ → List ℕ → List ℕ
message_bytes kind body = header_bytes kind (19 + length body) ++ body

abbrev pub keepalive_bytes : List ℕ
keepalive_bytes = message_bytes 4 []

-- code 6, and the number of a fault as the subcode
abbrev pub notification_bytes : ℕ → List ℕ
notification_bytes k = message_bytes 3 (6 ∷ k ∷ [])

-- the network in 2 bytes, or 23456 where it does not fit
abbrev pub short_asn : ℕ → ℕ
short_asn asn = cond (nat_lt asn 65536) asn 23456

-- version 4, the network, hold time 90, the own address, and one parameter of type 2 with the capabilities 1 (IPv4 unicast) and 65 (networks in 4 bytes)
abbrev pub open_body : ℕ → ℕ → List ℕ
open_body asn address = (4 ∷ []) ++ (bytes16 (short_asn asn) ++ ((0 ∷ 90 ∷ []) ++ (bytes32 address ++ ((14 ∷ 2 ∷ 12 ∷ 1 ∷ 4 ∷ 0 ∷ 1 ∷ 0 ∷ 1 ∷ 65 ∷ 4 ∷ []) ++ bytes32 asn))))

abbrev pub open_bytes : ℕ → ℕ → List ℕ
open_bytes asn address = message_bytes 1 (open_body asn address)

-- the length, and as many bytes of the address as its bits need
unfoldable pub prefix_bytes : Prefix → List ℕ
prefix_bytes p = p.length ∷ take ((p.length + 7) / 8) (bytes32 p.address)

-- no attributes, and nothing announced
abbrev pub withdrawal_body : Prefix → List ℕ
withdrawal_body p = bytes16 (length (prefix_bytes p)) ++ (prefix_bytes p ++ (0 ∷ 0 ∷ []))

abbrev pub withdrawal_bytes : Prefix → List ℕ
withdrawal_bytes p = message_bytes 2 (withdrawal_body p)

unfoldable pub numbers_bytes : List ℕ → List ℕ
numbers_bytes ns = flat_map bytes32 ns

-- well-known and transitive (64), type 2: one sequence (2) with all networks of the path
unfoldable pub path_bytes : List ℕ → List ℕ
path_bytes asns = (64 ∷ 2 ∷ (2 + 4 * length asns) ∷ 2 ∷ length asns ∷ []) ++ numbers_bytes asns

-- an attribute whose value is a number of 4 bytes
abbrev pub number_bytes : ℕ → ℕ → ℕ → List ℕ
number_bytes flags t n = (flags ∷ t ∷ 4 ∷ []) ++ bytes32 n

-- optional and transitive (192), type 8; none where there are no communities
unfoldable pub communities_bytes : List ℕ → List ℕ
communities_bytes cs = cond (length cs == 0) [] ((192 ∷ 8 ∷ (4 * length cs) ∷ []) ++ numbers_bytes cs)

-- origin 0, the path, the next hop, the MED (optional, 128), and the communities
unfoldable pub attributes_bytes : Route → ℕ → List ℕ
attributes_bytes r hop = (64 ∷ 1 ∷ 1 ∷ 0 ∷ []) ++ (path_bytes r.path ++ (number_bytes 64 3 hop ++ (number_bytes 128 4 r.med ++ communities_bytes r.communities)))

-- nothing withdrawn, the attributes, and the prefix
abbrev pub announcement_body : Route → ℕ → List ℕ
announcement_body r hop = (0 ∷ 0 ∷ []) ++ (bytes16 (length (attributes_bytes r hop)) ++ (attributes_bytes r hop ++ prefix_bytes r.prefix))

abbrev pub announcement_bytes : Route → ℕ → List ℕ
announcement_bytes r hop = message_bytes 2 (announcement_body r hop)
