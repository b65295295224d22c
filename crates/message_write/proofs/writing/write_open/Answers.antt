use Rattle.std.proofs.Common.{refl, arith, rules}
use Rattle.message_write.proofs.Messages.{done, refused, same_end}
use Rattle.message_write.proofs.writing.write_open.Goals as goal
use Rattle.message_write.specs.Written.{open_body}

pub returns-then-buffer-lt43 : goal.returns-then-buffer-lt43
returns-then-buffer-lt43 c = refused 1 43 (open_body c.args.asn c.args.address) _ refl (omega arith)

pub returns : goal.returns
returns c = let w = done 1 43 (open_body c.args.asn c.args.address) _ _ _ refl refl (omega arith) c.put_header.ensures.put c.put_open.ensures in search (rules, same_end)
