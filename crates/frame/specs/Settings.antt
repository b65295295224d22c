-- What settings say, and where they stand in the bytes of a frame. Assumes nothing.
use Rattle.std.specs.Prelude.{ℕ, zero, suc, ◌+◌, ◌*◌, cond, List, [], ◌∷◌, ◌++◌, length, take, Some, None, Option, nat_lt, slice_index, slice_index_or}
use Rattle.frame.specs.Bytes.{number32}
use Rattle.peers.specs.declared.peer.Peer.{Peer}
use Rattle.frame.specs.declared.settings.Settings.{Settings}

-- what settings say: the server's own autonomous system and address, and its peers, numbered from 0
pub record Exchange : Type 0 where
  pub asn : ℕ
  pub address : ℕ
  pub peers : List Peer

-- what a value of the code's `Settings` says
abbrev pub exchange : Settings → Exchange
exchange s = record { asn = s.asn; address = s.address; peers = take s.count s.peers }

-- the peer with number n, if there is one
abbrev pub peer_of : Exchange → ℕ → Option Peer
peer_of x n = cond (nat_lt n (length x.peers)) (Some (slice_index_or x.peers n record { asn = 0; address = 0 })) None

-- in a settings frame the peers stand from place 10 on, 8 bytes each: autonomous system and address
abbrev pub peer_at : List ℕ → ℕ → Peer
peer_at frame n = record { asn = number32 frame (10 + 8 * n); address = number32 frame (10 + 8 * n + 4) }

-- the first n peers of a settings frame
unfoldable pub peers_at : List ℕ → ℕ → List Peer
peers_at frame zero = []
peers_at frame (suc n) = peers_at frame n ++ peer_at frame n ∷ []

-- a settings frame: its kind (1 byte), how many peers (1), own autonomous system (4), own address (4), the peers
abbrev pub settings_at : List ℕ → Exchange
settings_at frame = record { asn = number32 frame 2; address = number32 frame 6; peers = peers_at frame (slice_index frame 1) }
