use Rattle.std.proofs.Common.{◌≡◌, ◌≤◌, ◌++◌, length, take}
use Rattle.attributes.specs.Gathering.{with_numbers}
use Rattle.attributes.specs.Meant.{numbers_of}
use Rattle.wire.specs.Bytes.{numbers}
use Rattle.attributes.proofs.numbers.push_numbers.Given as goal

-- what is left decides, with what was read so far
abbrev pub invariant-loop-number : goal.invariant-loop-number
invariant-loop-number g l = (with_numbers g.row.N (numbers_of l.row) l.rest ≡ with_numbers g.row.N (numbers_of l.initial.row) l.bytes) × (take g.row.N (numbers_of l.row ++ numbers l.rest) ≡ take g.row.N (numbers_of l.initial.row ++ numbers l.bytes)) × (length (numbers_of l.row) ≤ g.row.N)

abbrev pub decreases-loop-number : goal.decreases-loop-number
decreases-loop-number g l = length l.rest
