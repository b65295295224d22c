use Rattle.std.proofs.Common.{◌≡◌, ◌∙◌, refl, arith, rules, tests}
use Rattle.std.proofs.lemmas.Iterator.{YieldsList-from_range}
use Rattle.std.proofs.lemmas.Iterator.Search.{any_from_yields_List}
use Rattle.std.specs.List.{list_any, range_with_len}
use Rattle.peers.specs.Members.{is_member}
use Rattle.speaker.proofs.Ticks.{any_in_range}
use Rattle.speaker.proofs.ticking.any_below.Goals as goal

pub returns : goal.returns
returns c =
    let set = is_member c.args.set.now in
    let asked : c.any.result ≡ list_any set (range_with_len 0 c.args.peers) = any_from_yields_List set _ _ c.any.result c.any.ensures.ran (YieldsList-from_range 0 c.args.peers c.args.peers refl (omega arith)) (λ x b q k. search (rules, tests)) in
    asked ∙ any_in_range set c.args.peers
