-- A row of at most so many items. Assumes nothing.
use Rattle.std.specs.Prelude.{ℕ, List, take}
use Rattle.rows.specs.declared.Row.{Row}

-- the items of the row, in order
abbrev pub held : {T : Type 0} {N : ℕ} → Row T N → List T
held r = take r.count r.items
