-- Rows of events: what one message, or one tick, comes to. Assumes nothing.
use Rattle.std.specs.Prelude.{List, [], ◌∷◌, ◌++◌}
use Rattle.model.specs.Chain.{Chain}
use Rattle.model.specs.Model.{Size, Event, Now, sent}
use Rattle.model.specs.Stands.{Stands}
use Rattle.model.specs.Updates.{Update}
use Rattle.selection.specs.Intended.{Rules}

-- the events of a row, the earliest first, come behind those before, which stand the latest first
unfoldable pub then_all : List Event → List Event → List Event
then_all [] es = es
then_all (e ∷ row) es = then_all row (e ∷ es)

-- the updates that a row of events brings, one event after the other
unfoldable pub sent_all : Size → Rules → List Event → List Event → List Update
sent_all z rules [] es = []
sent_all z rules (e ∷ row) es = sent z rules e es ++ sent_all z rules row (e ∷ es)

-- after the row the state goes by all events, and just the updates of the row were sent, in their order
pub record KeepsAll {S : Type 0} (z : Size) (rules : Rules) (row es : List Event) (t : Now) (R : S → Update → S → Type 0) (from to : S) : Type 0 where
  pub stands : Stands z rules t (then_all row es)
  pub sends : Chain R from (sent_all z rules row es) to

-- so it is whatever came before
pub record PromisedAll {S : Type 0} (z : Size) (row : List Event) (s t : Now) (R : S → Update → S → Type 0) (from to : S) : Type 0 where
  pub keeps : (rules : Rules) (es : List Event) → Stands z rules s es → KeepsAll z rules row es t R from to
