-- Lines and columns. Assumes nothing.
use Rattle.std.specs.Prelude.{ℕ, ◌+◌, cond, fold, List, take, ◌==◌}
use Rattle.text_tokens.specs.declared.Place.{Place}

-- behind a byte: the next column, or behind the end of a line the first of the next line
abbrev pub after : Place → ℕ → Place
after p b = cond (b == 10) (record { line = p.line + 1; column = 1 }) (record { line = p.line; column = p.column + 1 })

abbrev pub place_from : Place → List ℕ → Place
place_from p bs = fold after p bs

-- where the byte at the offset stands: the first byte of a text stands on line 1 at column 1
abbrev pub place_of : List ℕ → ℕ → Place
place_of text offset = place_from (record { line = 1; column = 1 }) (take offset text)
