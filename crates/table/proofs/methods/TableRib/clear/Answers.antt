use Rattle.std.proofs.Common.{◌≡◌, rules}
use Rattle.std.proofs.lemmas.Fn.{filter_same}
use Rattle.table.proofs.Changes.{cleared_is, rises_cleared}
use Rattle.table.specs.Table.{others}
use Rattle.table.proofs.methods.TableRib.clear.Goals as goal

pub invariant_of-self-clause-rises : goal.invariant_of-self-clause-rises
invariant_of-self-clause-rises c =
    let left : c.retain.new.self.items ≡ others c.args.peer c.args.self.now.entries.items = filter_same _ _ _ (λ x b f' k. search rules) _ _ c.retain.ensures.filtered in
    rw left (rises_cleared _ c.args.peer c.args.self.now.rises)

pub returns : goal.returns
returns c =
    let left : c.retain.new.self.items ≡ others c.args.peer c.args.self.now.entries.items = filter_same _ _ _ (λ x b f' k. search rules) _ _ c.retain.ensures.filtered in
    rw left (cleared_is _ c.args.peer)
