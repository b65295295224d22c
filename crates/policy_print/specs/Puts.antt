-- What a printing function appends. Assumes nothing.
use Rattle.std.specs.Prelude.{◌≡◌, List, ℕ, ◌++◌, Result, OnOk}

-- unless memory is wanting, what is there is what was there, and the bytes behind it
abbrev pub Puts : {V E : Type 0} → List ℕ → List ℕ → List ℕ → Result V E → Type 0
Puts before bytes after r = OnOk r (after ≡ before ++ bytes)
