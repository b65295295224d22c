use Rattle.std.proofs.Common.{sym, subst}
use Rattle.intake.specs.Course.{Continues}
use Rattle.intake.proofs.Course.{laws}
use Rattle.intake.proofs.turns.Intake.next.Goals as goal

pub returns : goal.returns
returns c = record {
  value = c.turn.ensures;
  course = subst (Continues _ _) (sym c.turn.ensures) (laws _ _);
}
