use Rattle.std.proofs.Common.{string_bytes, rules}
use Rattle.policy_tables.specs.Meant.{content_of}
use Rattle.policy_print_laws.proofs.Whole.{anew}
use Rattle.policy_print_laws.proofs.reprints.reprint.Goals as goal

pub returns : goal.returns
returns c = anew c.args.peers c.args.text.now (string_bytes c.in_ok-print.field-0) (content_of c.read.new.self) (search rules) (search rules)
