-- One step of each recursion. Assumes nothing.
use Rattle.std.specs.Prelude.{◌≡◌, ℕ, ◌+◌, ◌≤◌, Bool, true, false, None}
use Rattle.rib.specs.Received.{Received, Silent, heard}
use Rattle.selection.specs.Intended.{Rules, imported, or_better, selected}

-- going through the peers, from m to n: those that announced nothing, and those that don't count, change nothing
pub record SelectSteps (rules : Rules) (silent : ℕ → Bool) (received : Received) (p m n : ℕ) : Type 0 where
  pub none : selected rules (heard silent received) p 0 ≡ None
  pub more : silent n ≡ false → selected rules (heard silent received) p (n + 1) ≡ or_better n (imported rules n (received n p)) (selected rules (heard silent received) p n)
  pub passes : silent n ≡ true → selected rules (heard silent received) p (n + 1) ≡ selected rules (heard silent received) p n
  pub skips : m ≤ n → Silent received p m n → selected rules (heard silent received) p n ≡ selected rules (heard silent received) p m
