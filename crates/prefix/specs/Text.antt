-- A prefix as it is written. Assumes nothing.
use Rattle.std.specs.Prelude.{ℕ, ◌/◌, ◌%◌, List, ◌++◌, codes, decimal}
use Rattle.prefix.specs.Prefix.{Prefix}

-- the four bytes of the address with dots between them, a slash, and the length
abbrev pub prefix_text : Prefix → List ℕ
prefix_text p =
    decimal (p.address / 16777216) ++ (codes "." ++ (decimal (p.address / 65536 % 256) ++ (codes "." ++ (decimal (p.address / 256 % 256)
    ++ (codes "." ++ (decimal (p.address % 256) ++ (codes "/" ++ decimal p.length)))))))
