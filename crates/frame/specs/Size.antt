-- The kinds of frames, and how many bytes a frame has. Assumes nothing.
use Rattle.std.specs.Prelude.{ℕ, ◌+◌, ◌*◌, cond, List, length, take, Some, None, Option, ◌==◌, nat_lt, slice_index}
use Rattle.frame.specs.Bytes.{number16, number32}
use Rattle.frame.specs.declared.kind.Kind.{Kind}
use Rattle.frame.specs.declared.kind.Kind.TheVariants.{Message, Session, Tick, PolicyText, Settings}

-- a frame's kind, by its first byte
abbrev pub kind_of : ℕ → Option Kind
kind_of b =
    cond (b == 1) (Some Message)
    (cond (b == 2) (Some Session)
    (cond (b == 3) (Some Tick)
    (cond (b == 4) (Some PolicyText)
    (cond (b == 5) (Some Settings)
    None))))

-- a size that is known once the first n bytes are there
abbrev pub known_at : ℕ → List ℕ → ℕ → Option ℕ
known_at n xs size = cond (nat_lt (length xs) n) None (Some size)

-- The size of a frame of each kind. Behind the kind, of 1 byte, come:
abbrev pub size_of : Kind → List ℕ → Option ℕ
-- the peer (1), the message's length (2), the message
size_of Message xs = known_at 4 xs (4 + number16 xs 2)
-- the peer (1), its state (1)
size_of Session xs = Some 3
-- nothing
size_of Tick xs = Some 1
-- the text's length (4), the text
size_of PolicyText xs = known_at 5 xs (5 + number32 xs 1)
-- how many peers (1), own autonomous system (4), own address (4), the peers (8 each)
size_of Settings xs = known_at 2 xs (10 + 8 * slice_index xs 1)

-- what bytes begin with: a frame, of which all bytes are there; one that is too long; a part of one; or none
pub data Begins : Type 0 where
  framed : Kind → List ℕ → Begins
  too_long : (size : ℕ) → Begins
  partial : Begins
  unknown : Begins

-- the longest frame that is read: a policy text has at most 65,536 bytes, behind the 5 in front
abbrev pub largest : ℕ
largest = 5 + 65536

abbrev pub by_size : List ℕ → Kind → Option ℕ → Begins
by_size bytes k None = partial
by_size bytes k (Some n) = cond (nat_lt largest n) (too_long n) (cond (nat_lt (length bytes) n) partial (framed k (take n bytes)))

abbrev pub by_kind : List ℕ → Option Kind → Begins
by_kind bytes None = unknown
by_kind bytes (Some k) = by_size bytes k (size_of k bytes)

abbrev pub begins : List ℕ → Begins
begins bytes = cond (nat_lt (length bytes) 1) partial (by_kind bytes (kind_of (slice_index bytes 0)))
