use Rattle.std.proofs.Common.{rules, arith}
use Rattle.attributes.specs.Meant.{peer_of}
use Rattle.update.proofs.Judging.{short, over_parted, failed_parted, read_parted}
use Rattle.update.proofs.reading.read_update.Goals as goal
use Rattle.update.specs.Meant.{content_meant, found_of}

pub returns-then-message-sections_end : goal.returns-then-message-sections_end
returns-then-message-sections_end c = search (rules, short)

pub returns-in_err-invalid : goal.returns-in_err-invalid
returns-in_err-invalid c = search (rules, over_parted)

pub returns-in_err-found : goal.returns-in_err-found
returns-in_err-found c = search (rules, failed_parted)

pub returns : goal.returns
returns c = read_parted (peer_of c.args.peer) c.args.message.now c.split_update-parts.result.withdrawn.now c.split_update-parts.result.attributes.now c.split_update-parts.result.announced.now c.in_ok-invalid.invalid c.is_empty.result (found_of c.in_ok-found.found) (content_meant c.content.result) (omega arith) c.split_update-parts.ensures.withdrawn c.split_update-parts.ensures.attributes c.split_update-parts.ensures.announced (search rules) (search rules) (search rules) (search rules)
