use Rattle.std.proofs.Common.{rules}
use Rattle.std.proofs.lemmas.Slice.{overwrites}
use Rattle.route.proofs.Rows.{written_before}
use Rattle.route.proofs.as_paths.write_before.Goals as goal

pub returns : goal.returns
returns c = record {
  whole = search (rules, overwrites);
  before = written_before c.args.all.now _ c.args.end c.args.times c.args.asn c.requires.0 c.requires.1 (search (rules, overwrites));
}
