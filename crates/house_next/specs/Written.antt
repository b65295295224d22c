-- What is said of bytes that the program writes: nothing. What reaches standard output is tested. Assumes nothing.
use Rattle.std.specs.Prelude.{ℕ, List}

abbrev pub Anything : {S : Type 0} → S → List ℕ → S → Type 0
Anything s bytes t = Unit {0}
