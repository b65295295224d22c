use Rattle.std.proofs.Common.{rules, ltb}
use Rattle.std.proofs.lemmas.List.Sorted.{IsPartitionPoint-from_clause, IsPartitionedBy-ltb}
use Rattle.table.proofs.Places.{climbs, placed}
use Rattle.table.proofs.Table.place_of.Goals as goal

-- the closure tells whether an entry's key is below, and the slice is the table's entries
pub returns : goal.returns
returns c =
    let facts = c.partition_point.ensures in
    let parts = IsPartitionPoint-from_clause (λ e. ltb e.key c.args.key) _ _ facts.partitioned (rw c.deref.ensures.value (IsPartitionedBy-ltb (λ e. e.key) _ c.args.key (climbs _ c.args.self.now.rises))) (λ a r q k. search rules) in
    placed _ _ _ (rw c.deref.ensures.value at facts.bound) (rw c.deref.ensures.value at parts)
