use Rattle.std.proofs.Common.{rules, arith}
use Rattle.std.proofs.lemmas.List.Sorted.{answers_always}
use Rattle.table.proofs.Places.{searched}
use Rattle.table.proofs.Table.find.Goals as goal

-- the closure gives an entry's key, and the slice is the table's entries
pub returns : goal.returns
returns c =
    let facts = c.binary_search_by_key.ensures in
    let by_key = facts.position (λ e. e.key) (answers_always _ _ _ (λ f a r g called. search rules)) in
    searched _ _ _ _ c.args.self.now.rises (omega arith) (rw (← c.deref.ensures.value) facts.bound) (rw (← c.deref.ensures.value, ← c.key_of-key.ensures) by_key)
