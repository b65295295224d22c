-- The frames that go out, and their bytes. Assumes nothing.
use Rattle.std.specs.Prelude.{ℕ, Bool, false, ◌||◌, List, [], ◌∷◌, ◌++◌, length, Some, None, Option, ◌==◌}
use Rattle.message_write.specs.Written.{withdrawal_bytes, announcement_bytes}
use Rattle.model.specs.Updates.{Update}
use Rattle.outbox.specs.declared.framing.Kind.{Kind}
use Rattle.outbox.specs.declared.framing.Kind.TheVariants as kind
use Rattle.prefix.specs.Prefix.{prefix_of}
use Rattle.route.specs.Route.{Route}
use Rattle.wire.specs.Bytes.{bytes16}

-- what goes out: a message to a peer, or that the server takes a peer's session down
pub data Frame : Type 0 where
  Carries : (peer : ℕ) → (message : List ℕ) → Frame
  Closes : (peer : ℕ) → Frame

-- the first byte of a frame says what it is for
abbrev pub number : Kind → ℕ
number kind.Carries = 16
number kind.Closes = 17

-- 16, the peer, the message's length in 2 bytes, and the message; or 17 and the peer
abbrev pub frame_bytes : Frame → List ℕ
frame_bytes (Carries i m) = 16 ∷ i ∷ (bytes16 (length m) ++ m)
frame_bytes (Closes i) = 17 ∷ i ∷ []

-- the message that tells a peer of a prefix, by its number: an UPDATE that withdraws it, or that announces the route, with the server's own address as the next hop
abbrev pub update_bytes : ℕ → ℕ → Option Route → List ℕ
update_bytes hop p None = withdrawal_bytes (prefix_of p)
update_bytes hop p (Some r) = announcement_bytes r hop

abbrev pub update_frame : ℕ → Update → Frame
update_frame hop u = Carries u.peer (update_bytes hop u.prefix u.route)

-- a row of updates, each in a frame of its own
unfoldable pub update_frames : ℕ → List Update → List Frame
update_frames hop [] = []
update_frames hop (u ∷ us) = update_frame hop u ∷ update_frames hop us

-- the frame carries a message to peer j
abbrev pub reaches : ℕ → Frame → Bool
reaches j (Carries i m) = j == i
reaches j (Closes i) = false

-- one of the frames does
unfoldable pub reaches_any : ℕ → List Frame → Bool
reaches_any j [] = false
reaches_any j (f ∷ fs) = reaches j f || reaches_any j fs
