-- The sessions and the model's events go together. Assumes nothing.
use Rattle.std.specs.Prelude.{◌≡◌, ℕ, ◌<◌, ◌≤◌, List}
use Rattle.frame.specs.Frame.{Happening}
use Rattle.frame.specs.Settings.{Exchange}
use Rattle.rib.specs.Received.{most_peers}
use Rattle.session.specs.Session.{down, is_established}
use Rattle.speaker_model.specs.World.{World, count_of, now_in, world_after}

-- just the sessions that are established are up in the model, and a peer that the settings don't have has none
pub record Agrees (x : Exchange) (w : World) : Type 0 where
  pub up : (i : ℕ) → i < count_of x → (now_in x w).up i ≡ is_established (w.sessions i)
  pub outside : (i : ℕ) → count_of x ≤ i → w.sessions i ≡ down

-- so it is after every list of frames, for at most 64 peers
abbrev pub Agreement : Type 0
Agreement = (x : Exchange) → count_of x ≤ most_peers → (hs : List Happening) → Agrees x (world_after x hs)
