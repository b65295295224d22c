-- What rows of updates and of frames come to. Assumes nothing.
use Rattle.std.specs.Prelude.{◌≡◌, ℕ, ◌<◌, ◌||◌, List, [], ◌∷◌, ◌++◌}
use Rattle.model.specs.Chain.{Chain}
use Rattle.model.specs.Updates.{Update}
use Rattle.outbox.specs.Frames.{Frame, frame_bytes, update_frames, reaches_any}
use Rattle.outbox.specs.Outbox.{Box, box_of, Puts, SendsBy, Tellable}
use Rattle.outbox.specs.declared.Outbox.{Outbox}
use Rattle.rib.specs.Received.{most_peers}

-- every update of the row can be told
unfoldable pub AllTellable : List Update → Type 0
AllTellable [] = Unit {0}
AllTellable (u ∷ us) = Tellable u × AllTellable us

-- the bytes of a frame were written
abbrev pub WritesFrame : {O : Type 0} → (O → List ℕ → O → Type 0) → O → Frame → O → Type 0
WritesFrame W s f t = W s (frame_bytes f) t

-- just the bytes of the frames were written, one frame after the other
abbrev pub Written : {O : Type 0} → (O → List ℕ → O → Type 0) → O → List Frame → O → Type 0
Written W s fs t = Chain (WritesFrame W) s fs t

-- a row of updates was told: each in a frame of its own, in their order, and all can be told
pub record Told {O : Type 0} (W : O → List ℕ → O → Type 0) (s : Box O) (us : List Update) (t : Box O) : Type 0 where
  pub frames : Chain (Puts W) s (update_frames s.address us) t
  pub tellable : AllTellable us

-- a row of frames was put out: just their bytes were written, in their order; besides those that were, just their peers are noted as reached; own network and address are as they were
pub record PutOut {O : Type 0} (W : O → List ℕ → O → Type 0) (s : Box O) (fs : List Frame) (t : Box O) : Type 0 where
  pub written : Written W s.output fs t.output
  pub reached : (j : ℕ) → j < most_peers → t.reached j ≡ (reaches_any j fs || s.reached j)
  pub own : t.own ≡ s.own
  pub address : t.address ≡ s.address

pub record OutboxLaws {O : Type 0} (W : O → List ℕ → O → Type 0) : Type 0 where
  -- updates that were sent one after the other were told
  pub told : (s t : Outbox O) (us : List Update) → Chain (SendsBy W) s us t → Told W (box_of s) us (box_of t)
  -- frames that were put out one after the other
  pub put_out : (s t : Box O) (fs : List Frame) → Chain (Puts W) s fs t → PutOut W s fs t
  -- no frame, one frame, and rows of frames behind one another
  pub none : (s : Box O) → Chain (Puts W) s [] s
  pub one : (s t : Box O) (f : Frame) → Puts W s f t → Chain (Puts W) s (f ∷ []) t
  pub join : (s t v : Box O) (fs gs : List Frame) → Chain (Puts W) s fs t → Chain (Puts W) t gs v → Chain (Puts W) s (fs ++ gs) v
