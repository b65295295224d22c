-- What the code's answers stand for. Assumes nothing.
use Rattle.std.specs.Prelude.{ℕ, List, Option}
use Rattle.std.specs.Borrow.{Bor}
use Rattle.std.specs.Option.{option_map}

-- a number, and the bytes behind it
abbrev pub lead_of : Option (ℕ × Bor (List ℕ)) → Option (ℕ × List ℕ)
lead_of r = option_map (λ x. (x.0, x.1.now)) r
