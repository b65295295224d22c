-- The bytes behind a place, one by one. Assumes nothing.
use Rattle.std.proofs.Common.{arith}
use Rattle.std.proofs.lemmas.List.{get_or-drop, drop-drop, length-drop}

pub ruleset numbers_behind = (get_or-drop, drop-drop)
