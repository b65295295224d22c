use Rattle.std.proofs.Common.{sym, ap}
use Rattle.message_write.proofs.Puts.{join_five, put_same}
use Rattle.message_write.proofs.Sizes.{attributes_parts}
use Rattle.message_write.proofs.Writer.put_attributes.Goals as goal
use Rattle.message_write.specs.Written.{path_bytes, communities_bytes}
use Rattle.route.specs.Meant.{route_of}

pub returns : goal.returns
returns c =
    let path = put_same _ _ _ _ (ap path_bytes c.asns-path.ensures) c.put_path.ensures in
    let communities = put_same _ _ _ _ (ap communities_bytes c.as_slice-communities.ensures) c.put_communities.ensures in
    put_same _ _ _ _ (sym (attributes_parts (route_of c.args.route.now) c.args.next_hop)) (join_five _ _ _ _ _ _ _ _ _ _ _ c.put_bytes.ensures path c.put_attribute.ensures c.put_attribute-2.ensures communities)
