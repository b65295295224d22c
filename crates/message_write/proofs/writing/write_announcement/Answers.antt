use Rattle.std.proofs.Common.{refl, ◌+◌, length, ap, ◌∙◌, arith, rules}
use Rattle.message_write.proofs.Messages.{done, refused, same_end, body_steps}
use Rattle.message_write.proofs.Puts.{join, put_same}
use Rattle.message_write.proofs.writing.write_announcement.Goals as goal
use Rattle.message_write.specs.Written.{announcement_body}
use Rattle.route.specs.Meant.{route_of}
use Rattle.wire.specs.Bytes.{bytes16}

pub returns-then-buffer-size : goal.returns-then-buffer-size
returns-then-buffer-size c =
    let r = route_of c.args.route.now in
    refused 2 (23 + c.attributes_size-attributes.result + c.prefix_size.result) (announcement_body r c.args.next_hop) _ (omega (arith, body_steps.announcement r c.args.next_hop, c.attributes_size-attributes.ensures.value c.args.next_hop, c.prefix_size.ensures.value)) c.if-buffer-size.true

pub put_attributes-requires : goal.put_attributes-requires
put_attributes-requires c = omega (arith, c.attributes_size-attributes.ensures.value c.args.next_hop, ap length c.to_be_bytes.ensures)

pub put_prefix-requires : goal.put_prefix-requires
put_prefix-requires c = omega (arith, c.prefix_size.ensures.value, c.attributes_size-attributes.ensures.value c.args.next_hop, ap length c.to_be_bytes.ensures)

pub returns : goal.returns
returns c =
    let r = route_of c.args.route.now in
    let hop = c.args.next_hop in
    let long = put_same _ _ _ _ (c.to_be_bytes.ensures ∙ ap bytes16 (c.attributes_size-attributes.ensures.value hop)) c.put_bytes-2.ensures in
    let last = join _ _ _ _ _ _ c.put_attributes.ensures c.put_prefix.ensures refl in
    let rest = join _ _ _ _ _ _ long last refl in
    let body = join _ _ _ _ _ _ c.put_bytes.ensures rest refl in
    let w = done 2 (23 + c.attributes_size-attributes.result + c.prefix_size.result) (announcement_body r hop) _ _ _ refl (omega (arith, body_steps.announcement r hop, c.attributes_size-attributes.ensures.value hop, c.prefix_size.ensures.value)) c.if-buffer-size.false c.put_header.ensures.put body in
    search (rules, same_end)
