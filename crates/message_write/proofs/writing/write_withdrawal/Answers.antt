use Rattle.std.proofs.Common.{refl, ◌+◌, ap, ◌∙◌, arith, rules}
use Rattle.message_write.proofs.Messages.{done, refused, same_end, body_steps}
use Rattle.message_write.proofs.Puts.{join, put_same}
use Rattle.message_write.proofs.writing.write_withdrawal.Goals as goal
use Rattle.message_write.specs.Written.{withdrawal_body}
use Rattle.prefix.specs.Meant.{meant}
use Rattle.wire.specs.Bytes.{bytes16}

pub returns-then-buffer-size : goal.returns-then-buffer-size
returns-then-buffer-size c =
    let p = meant c.args.prefix.now in
    refused 2 (23 + c.prefix_size-length.result) (withdrawal_body p) _ (omega (arith, body_steps.withdrawal p, c.prefix_size-length.ensures.value)) c.if-buffer-size.true

pub returns : goal.returns
returns c =
    let p = meant c.args.prefix.now in
    let long = put_same _ _ _ _ (c.to_be_bytes.ensures ∙ ap bytes16 c.prefix_size-length.ensures.value) c.put_bytes.ensures in
    let last = join _ _ _ _ _ _ c.put_prefix.ensures c.put_bytes-2.ensures refl in
    let body = join _ _ _ _ _ _ long last refl in
    let w = done 2 (23 + c.prefix_size-length.result) (withdrawal_body p) _ _ _ refl (omega (arith, body_steps.withdrawal p, c.prefix_size-length.ensures.value)) c.if-buffer-size.false c.put_header.ensures.put body in
    search (rules, same_end)
