use Rattle.std.proofs.Common.{◌≡◌, ◌-◌}
use Rattle.prefix.specs.Prefix.{descend, prefix_of}
use Rattle.prefix.proofs.Prefix.from_number.Given as goal

-- as many bits are chosen as turns are gone, and what is left leads to the prefix
abbrev pub invariant-loop-length : goal.invariant-loop-length
invariant-loop-length l = (l.prefix.length ≡ l.length) × (descend (24 - l.length) l.prefix.address l.rest ≡ prefix_of l.n)
