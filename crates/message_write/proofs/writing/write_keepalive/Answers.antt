use Rattle.std.proofs.Common.{[], refl, arith, rules}
use Rattle.message_write.proofs.Messages.{done, refused, same_end}
use Rattle.message_write.proofs.Puts.{nothing}
use Rattle.message_write.proofs.writing.write_keepalive.Goals as goal

pub returns-then-buffer-lt19 : goal.returns-then-buffer-lt19
returns-then-buffer-lt19 c = refused 4 19 [] _ refl (omega arith)

pub returns : goal.returns
returns c = let w = done 4 19 [] _ _ _ refl refl (omega arith) c.put_header.ensures.put (nothing _) in search (rules, same_end)
