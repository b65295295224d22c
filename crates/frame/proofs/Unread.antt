-- What is made of bytes that begin with no frame with all its bytes. Assumes nothing.
use Rattle.std.proofs.Common.{◌≡◌, ℕ, List, Some, ap, arith}
use Rattle.frame.specs.Frame.{Outcome, unread, outcome}
use Rattle.frame.specs.Size.{Begins, framed, too_long, partial, unknown}
use Rattle.frame.specs.Unread.{unread_by}
use Rattle.frame.specs.declared.event.Refusal.{Refusal}
use Rattle.frame.specs.declared.event.Defect.TheVariants.{UnknownKind}
use Rattle.frame.specs.declared.event.Unread.{Unread}
use Rattle.frame.specs.declared.event.Unread.TheVariants as unread_as
use Rattle.frame.specs.declared.kind.Kind.{Kind}

pub unread_outcome : {X : Type 0} (look : Kind → List ℕ → Outcome X) (long : Refusal) (b : Begins) (u : Unread) → unread_by long b ≡ Some u → unread {X = X} u ≡ outcome look long b
unread_outcome look long (framed k frame) u e = let z : ◌≡◌ {A = ℕ} 0 1 = cc in absurd (omega arith)
unread_outcome {X} look long (too_long n) u e = let i : u ≡ unread_as.Refused long n = cc in ap (unread {X = X}) i
unread_outcome {X} look long partial u e = let i : u ≡ unread_as.More = cc in ap (unread {X = X}) i
unread_outcome {X} look long unknown u e = let i : u ≡ unread_as.Unreadable UnknownKind = cc in ap (unread {X = X}) i
