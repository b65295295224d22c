use Rattle.prefix.specs.Meant.{meant}
use Rattle.policy.specs.Starts.{Lowered, first_bucket}
use Rattle.policy.proofs.starts.lower_starts.Given as goal

-- the buckets so far have been lowered
abbrev pub invariant-loop-bucket : goal.invariant-loop-bucket
invariant-loop-bucket l = Lowered l.initial.starts l.starts (first_bucket (meant l.prefix)) l.bucket l.place
