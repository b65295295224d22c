-- Writing into a lent buffer. Assumes nothing.
use Rattle.std.specs.Prelude.{◌≡◌, ℕ, ◌+◌, ◌≤◌, cond, List, ◌++◌, length, take, drop, Some, None, Option, nat_le}
use Rattle.message_write.specs.declared.Writer.{Writer}

-- bytes were written from a place on, up to an end; what is in front and behind is as it was
pub record Put (place : ℕ) (bytes before after : List ℕ) (end : ℕ) : Type 0 where
  pub ended : end ≡ place + length bytes
  pub sized : length after ≡ length before
  pub front : take end after ≡ take place before ++ bytes
  pub behind : (n : ℕ) → end ≤ n → drop n after ≡ drop n before

-- bytes were written behind what a writer has written so far, into the same buffer
pub record Puts (bytes : List ℕ) (old new : Writer) : Type 0 where
  pub put : Put old.end bytes old.buffer.now new.buffer.now new.end
  pub same : new.buffer.ghost_name ≡ old.buffer.ghost_name

-- a message was written at the front, and its length is the answer; where there is no room for it nothing is written
pub record Wrote (bytes before after : List ℕ) (answer : Option ℕ) : Type 0 where
  pub count : answer ≡ cond (nat_le (length bytes) (length before)) (Some (length bytes)) None
  pub left : after ≡ cond (nat_le (length bytes) (length before)) (bytes ++ drop (length bytes) before) before
