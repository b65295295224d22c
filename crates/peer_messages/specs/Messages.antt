-- The bytes of messages as peers send them, right or not. Assumes nothing.
use Rattle.std.specs.Prelude.{ℕ, ◌+◌, ◌/◌, ◌%◌, min, cond, List, [], ◌∷◌, ◌++◌, length, take, replicate, ◌==◌, bit_or, nat_le, nat_lt}
use Rattle.script_words.specs.declared.addresses.Prefix.{Prefix}

-- a number as 2 bytes, the high byte first
abbrev pub bytes16 : ℕ → List ℕ
bytes16 n = (n / 256 % 256) ∷ (n % 256) ∷ []

-- a number as 4 bytes
abbrev pub bytes32 : ℕ → List ℕ
bytes32 n = (n / 16777216 % 256) ∷ (n / 65536 % 256) ∷ (n / 256 % 256) ∷ (n % 256) ∷ []

-- a length in 2 bytes; 65,535 stands for all that do not fit
abbrev pub size_bytes : ℕ → List ℕ
size_bytes n = bytes16 (min n 65535)

-- 16 bytes of 255, the length of the whole message, its kind, and what it says
unfoldable pub message_bytes : ℕ → List ℕ → List ℕ
message_bytes kind body = replicate 16 255 ++ (size_bytes (length body + 19) ++ (kind ∷ body))

-- the network in 2 bytes, or 23456 where it does not fit
abbrev pub short_asn : ℕ → ℕ
short_asn asn = cond (nat_lt asn 65536) asn 23456

-- version 4, the network, hold time 90, the address as identifier, and one parameter with capability 65
unfoldable pub open_body : ℕ → ℕ → List ℕ
open_body asn address = (4 ∷ []) ++ (bytes16 (short_asn asn) ++ ((0 ∷ 90 ∷ []) ++ (bytes32 address ++ ((8 ∷ 2 ∷ 6 ∷ 65 ∷ 4 ∷ []) ++ bytes32 asn))))

-- the length, and as many bytes of the address as its bits need
abbrev pub prefix_bytes : Prefix → List ℕ
prefix_bytes p = p.length ∷ take ((p.length + 7) / 8) (bytes32 p.address.0)

-- an attribute; one of more than 255 bytes has its length in 2, which flag 16 says
abbrev pub attribute_bytes : ℕ → ℕ → List ℕ → List ℕ
attribute_bytes flags kind value = cond (nat_le (length value) 255) (flags ∷ kind ∷ length value ∷ value) (bit_or flags 16 ∷ kind ∷ (size_bytes (length value) ++ value))

-- one sequence of the networks that stand in 4 bytes each; nothing where there are none
abbrev pub sequence_bytes : List ℕ → List ℕ
sequence_bytes path = cond (length path == 0) [] (2 ∷ min (length path / 4) 255 ∷ path)
