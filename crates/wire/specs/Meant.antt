-- What the code's values stand for. Assumes nothing.
use Rattle.std.specs.Prelude.{List}
use Rattle.prefix.specs.Prefix.{Prefix}
use Rattle.wire.specs.declared.nlri.Prefixes.{Prefixes}
use Rattle.wire.specs.Nlri.{named}

-- the prefixes that are still to come
abbrev pub named_of : Prefixes → List Prefix
named_of p = named p.rest.now
