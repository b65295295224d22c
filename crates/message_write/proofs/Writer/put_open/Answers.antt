use Rattle.std.proofs.Common.{refl, ap, ◌∙◌}
use Rattle.message_write.proofs.Puts.{join, join_five, put_same}
use Rattle.message_write.proofs.Writer.put_open.Goals as goal
use Rattle.wire.specs.Bytes.{bytes16}

pub returns : goal.returns
returns c =
    let short = put_same _ _ _ _ (c.to_be_bytes.ensures ∙ ap bytes16 c.short_asn.ensures) c.put_bytes-2.ensures in
    let last = join _ _ _ _ _ _ c.put_bytes-4.ensures c.put_number-2.ensures refl in
    join_five _ _ _ _ _ _ _ _ _ _ _ c.put_bytes.ensures short c.put_bytes-3.ensures c.put_number.ensures last
