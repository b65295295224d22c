-- What a table stands for. Assumes nothing.
use Rattle.rib.specs.Received.{Received}
use Rattle.std.specs.Prelude.{vec_items}
use Rattle.table.specs.Table.{received_of}
use Rattle.table.specs.declared.Table.{Table}

-- what each peer last announced
abbrev pub received_by : Table → Received
received_by t = received_of (vec_items t.entries)
