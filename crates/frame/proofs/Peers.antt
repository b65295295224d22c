-- The peers of a settings frame, one by one. Assumes nothing.
use Rattle.std.proofs.Common.{◌≡◌, ℕ, ◌+◌, List, [], ◌∷◌, ◌++◌, refl, add-one}
use Rattle.frame.specs.Settings.{peer_at, peers_at}

pub peers_none : (frame : List ℕ) → peers_at frame 0 ≡ []
unfolding peers_at
peers_none frame = refl

pub peers_more : (frame : List ℕ) (n : ℕ) → peers_at frame (n + 1) ≡ peers_at frame n ++ peer_at frame n ∷ []
unfolding peers_at
peers_more frame n = rw (add-one n)
