-- The course of an input: all that its frames lead to, one after the other, from its first byte. And the law that ties one
-- turn to it: however the input is cut into pieces, what comes out is its course. Assumes nothing.
use Rattle.std.specs.Prelude.{◌≡◌, ℕ, zero, suc, ◌<◌, ◌≤◌, cond, List, [], ◌∷◌, ◌++◌, length, drop, Some, None, Option, nat_lt}
use Rattle.frame.specs.Frame.{Outcome, whole, refused, more, unreadable}
use Rattle.frame.specs.Settings.{Exchange}
use Rattle.frame.specs.Size.{largest}
use Rattle.frame.specs.declared.event.Refusal.{Refusal}
use Rattle.intake.specs.declared.turns.Passing.{Passing}
use Rattle.intake.specs.State.{Entry, in_force, event, passed_over, ended, reads, force_after, State, Taken, turn}

-- what a first frame leads to, with what the rest leads to behind it: a frame counts when its last byte is there, and
-- behind one that cannot be read nothing counts
abbrev pub course_by : (Option Exchange → List ℕ → List Entry) → Option Exchange → List ℕ → Outcome Entry → List Entry
course_by rest s xs (whole e n) = e ∷ rest (force_after s e) (drop n xs)
course_by rest s xs (refused r n) = cond (nat_lt (length xs) n) [] (passed_over r ∷ rest s (drop n xs))
course_by rest s xs more = []
course_by rest s xs (unreadable d) = ended d ∷ []

-- what the first n frames lead to
unfoldable pub course : ℕ → Option Exchange → List ℕ → List Entry
course zero s xs = []
course (suc n) s xs = course_by (course n) s xs (reads s xs)

-- what all of an input leads to: it has no more frames than bytes
abbrev pub course_of : Option Exchange → List ℕ → List Entry
course_of s xs = course (length xs) s xs

-- the same behind a frame that is being passed over
abbrev pub behind : Option Exchange → Refusal → ℕ → List ℕ → List Entry
behind s r left xs = cond (nat_lt (length xs) left) [] (passed_over r ∷ course_of s (drop left xs))

abbrev pub ahead_by : Option Exchange → List ℕ → Option Passing → List Entry
ahead_by s xs None = course_of s xs
ahead_by s xs (Some p) = behind s p.refusal p.left xs

-- what is ahead of an input that is read so far, where xs are the bytes not yet done with
abbrev pub ahead_of : State → List ℕ → List Entry
ahead_of st xs = ahead_by st.settings xs st.passing

-- what comes out now, and then the rest: behind a frame that cannot be read nothing
abbrev pub and_then : Option Entry → List Entry → List Entry
and_then None es = es
and_then (Some (in_force x)) es = in_force x ∷ es
and_then (Some (event h)) es = event h ∷ es
and_then (Some (passed_over r)) es = passed_over r ∷ es
and_then (Some (ended d)) es = ended d ∷ []

-- a turn, on the bytes xs at hand, continues an input of which `ahead` is ahead
pub record Continues (ahead : List ℕ → List Entry) (xs : List ℕ) (t : Taken) : Type 0 where
  -- whatever bytes ys come later: what is ahead is what comes out now, and then what is ahead of the bytes kept and ys
  pub goes_on : (ys : List ℕ) → ahead (xs ++ ys) ≡ and_then t.entry (ahead_of t.after (drop t.taken xs ++ ys))
  -- nothing is held back: where nothing comes out, the bytes at hand lead to nothing
  pub prompt : t.entry ≡ None → ahead xs ≡ []
  -- no more bytes are done with than are at hand
  pub within : t.taken ≤ length xs
  -- where nothing comes out, fewer bytes are kept than the longest frame has
  pub kept : t.entry ≡ None → length (drop t.taken xs) < largest

-- every turn continues the course of its input
abbrev pub Laws : Type 0
Laws = (st : State) (xs : List ℕ) → Continues (ahead_of st) xs (turn st xs)
