use Rattle.std.proofs.Common.{arith}
use Rattle.message_write.proofs.Sizes.{communities_size}
use Rattle.message_write.proofs.Writer.put_communities.Goals as goal

pub put_numbers-requires : goal.put_numbers-requires
put_numbers-requires c = omega (arith, communities_size c.args.communities.now (omega arith))
