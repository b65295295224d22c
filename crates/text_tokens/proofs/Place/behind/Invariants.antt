use Rattle.std.proofs.Common.{◌≡◌, ◌+◌, ◌≤◌, take}
use Rattle.text_tokens.specs.Places.{place_from}
use Rattle.text_tokens.proofs.Place.behind.Given as goal

abbrev pub invariant-loop-byte : goal.invariant-loop-byte
invariant-loop-byte l = (l.place ≡ place_from (record { line = 1; column = 1 }) (take l.byte-index l.bytes)) × (l.place.line ≤ l.byte-index + 1) × (l.place.column ≤ l.byte-index + 1)
