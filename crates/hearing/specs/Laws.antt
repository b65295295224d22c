-- What peers hold that do as they are told by the bytes they get. Assumes nothing.
use Rattle.std.specs.Prelude.{◌≡◌, ℕ, ◌<◌, cond, List, [], ◌∷◌, ◌++◌, None, ◌==◌}
use Rattle.hearing.specs.Hearing.{held_by}
use Rattle.hearing.specs.Placed.{AllPlaced}
use Rattle.message_write.specs.Written.{keepalive_bytes, notification_bytes, open_bytes}
use Rattle.model.specs.Model.{Size, Event, sent}
use Rattle.model.specs.Rows.{sent_all}
use Rattle.model.specs.Updates.{Update, Held, Sent, held_after, tells}
use Rattle.outbox.specs.Frames.{Frame, Carries, Closes, update_frames}
use Rattle.outbox.specs.Laws.{AllTellable}
use Rattle.selection.specs.Intended.{Rules}

-- whatever went out before:
pub record HearingLaws : Type 0 where
  -- by the bytes of updates peers hold just what the updates tell them
  pub updates : (address : ℕ) (before : List Frame) (us : List Update) → address < 4294967296 → AllTellable us → AllPlaced us → (j p : ℕ) → held_by address (before ++ update_frames address us) j p ≡ held_after (held_by address before) (tells us) j p
  -- after an OPEN its peer holds nothing, and all others hold what they held
  pub opened : (address own : ℕ) (before : List Frame) (i j p : ℕ) → held_by address (before ++ (Carries i (open_bytes own address) ∷ [])) j p ≡ cond (j == i) None (held_by address before j p)
  -- after a KEEPALIVE, a NOTIFICATION, and where a session is taken down, all hold what they held
  pub keepalive : (address : ℕ) (before : List Frame) (i j p : ℕ) → held_by address (before ++ (Carries i keepalive_bytes ∷ [])) j p ≡ held_by address before j p
  pub notification : (address k : ℕ) (before : List Frame) (i j p : ℕ) → held_by address (before ++ (Carries i (notification_bytes k) ∷ [])) j p ≡ held_by address before j p
  pub closed : (address : ℕ) (before : List Frame) (i j p : ℕ) → held_by address (before ++ (Closes i ∷ [])) j p ≡ held_by address before j p
  -- what a peer holds goes by what that peer held alone
  pub alone : (held other : Held) (ss : List Sent) (j : ℕ) → ((p : ℕ) → held j p ≡ other j p) → (p : ℕ) → held_after held ss j p ≡ held_after other ss j p

-- all that the server sends stands in its place
pub record PlacedLaws : Type 0 where
  pub one_event : (z : Size) (rules : Rules) (e : Event) (es : List Event) → AllPlaced (sent z rules e es)
  pub all_events : (z : Size) (rules : Rules) (row es : List Event) → AllPlaced (sent_all z rules row es)
