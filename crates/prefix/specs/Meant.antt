-- What the code's prefix stands for. Assumes nothing.
use Rattle.prefix.specs.declared.Prefix.{Prefix as Stored}
use Rattle.prefix.specs.Prefix.{Prefix}

abbrev pub meant : Stored → Prefix
meant p = record { address = p.address; length = p.length }
