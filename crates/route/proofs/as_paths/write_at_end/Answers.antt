use Rattle.std.proofs.Common.{rules}
use Rattle.std.proofs.lemmas.Slice.{overwrites}
use Rattle.route.proofs.Rows.{written_at_end}
use Rattle.route.proofs.as_paths.write_at_end.Goals as goal

pub returns : goal.returns
returns c = record {
  whole = search (rules, overwrites);
  end = written_at_end c.args.all.now _ c.args.row.now (search (rules, overwrites)) c.requires;
}
