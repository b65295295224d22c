use Rattle.std.proofs.Common.{[], ◌∷◌, refl, ap, arith, rules}
use Rattle.fault.specs.Fault.{code}
use Rattle.message_write.proofs.Messages.{done, refused, same_end}
use Rattle.message_write.proofs.Puts.{put_same}
use Rattle.message_write.proofs.writing.write_notification.Goals as goal

pub returns-then-buffer-lt21 : goal.returns-then-buffer-lt21
returns-then-buffer-lt21 c = refused 3 21 (6 ∷ code c.args.fault ∷ []) _ refl (omega arith)

pub returns : goal.returns
returns c =
    let body = put_same _ _ _ _ (ap (λ k. 6 ∷ k ∷ []) c.from.ensures) c.put_bytes.ensures in
    let w = done 3 21 (6 ∷ code c.args.fault ∷ []) _ _ _ refl refl (omega arith) c.put_header.ensures.put body in
    search (rules, same_end)
