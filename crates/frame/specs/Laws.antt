-- Laws of reading frames: it does not matter how an input is cut into pieces, and a frame is read by its own bytes alone.
-- Assumes nothing.
use Rattle.std.specs.Prelude.{◌≡◌, ℕ, ◌<◌, ◌≤◌, List, ◌++◌, length, take, ◌≢◌}
use Rattle.frame.specs.Frame.{Outcome, whole, refused, more, unreadable, first, next}
use Rattle.frame.specs.Settings.{Exchange}
use Rattle.frame.specs.Size.{largest}
use Rattle.frame.specs.declared.event.Refusal.{Refusal}

-- how many bytes a frame has that is taken or passed over
abbrev pub taken : {X : Type 0} → Outcome X → ℕ
taken (whole x n) = n
taken (refused r n) = n
taken more = 0
taken (unreadable d) = 0

pub record Lawful {X : Type 0} (reads : List ℕ → Outcome X) : Type 0 where
  -- what is decided stays so, whatever bytes come behind
  pub settled : (xs ys : List ℕ) → (reads xs ≢ more) → reads (xs ++ ys) ≡ reads xs
  -- a frame that is taken or passed over is decided by its own bytes
  pub own : (xs : List ℕ) → 1 ≤ taken (reads xs) → taken (reads xs) ≤ length xs → reads (take (taken (reads xs)) xs) ≡ reads xs
  -- and one that is taken by no fewer
  pub needed : (xs : List ℕ) (x : X) (n k : ℕ) → reads xs ≡ whole x n → k < n → reads (take k xs) ≡ more
  -- all bytes of a frame that is taken are at hand, and it has one at least
  pub within : (xs : List ℕ) (x : X) (n : ℕ) → reads xs ≡ whole x n → (1 ≤ n) × (n ≤ length xs)
  -- a frame that is passed over has one byte at least too
  pub onward : (xs : List ℕ) (r : Refusal) (n : ℕ) → reads xs ≡ refused r n → 1 ≤ n
  -- with as many bytes as the longest frame has, something is decided
  pub bounded : (xs : List ℕ) → largest ≤ length xs → reads xs ≢ more

-- the laws hold before settings and under any
abbrev pub Laws : Type 0
Laws = Lawful first × ((x : Exchange) → Lawful (next x))
