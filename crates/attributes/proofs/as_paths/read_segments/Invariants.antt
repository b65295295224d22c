use Rattle.std.proofs.Common.{◌≡◌, ◌≤◌, [], length, option_map, IfSome, Some}
use Rattle.attributes.specs.Gathering.{read_segments}
use Rattle.attributes.specs.Meant.{numbers_of}
use Rattle.attributes.proofs.as_paths.read_segments.Given as goal

-- what is left decides, with what was gathered so far
abbrev pub invariant-loop-rest : goal.invariant-loop-rest
invariant-loop-rest l = (read_segments 32 (option_map numbers_of l.asns) l.rest ≡ read_segments 32 (Some []) l.value) × IfSome l.asns (λ r. length (numbers_of r) ≤ 32)

abbrev pub decreases-loop-rest : goal.decreases-loop-rest
decreases-loop-rest l = length l.rest
