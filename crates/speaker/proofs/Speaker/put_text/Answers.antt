use Rattle.std.proofs.Common.{List, [], ◌∷◌, sym, refl, ap, ◌∙◌, subst}
use Rattle.model.proofs.Rows.{one_event}
use Rattle.model.specs.Model.{Event, PutInForce}
use Rattle.outbox.specs.Outbox.{SendsBy}
use Rattle.policy_tables.specs.Meant.{content_of}
use Rattle.policy_tables.specs.Texts.{meaning, policy_for}
use Rattle.policy_tables.specs.declared.Direction.TheVariants.{Import, Export}
use Rattle.server.specs.Meant.{size_of}
use Rattle.speaker.proofs.Steps.{goes_by, goes_on}
use Rattle.speaker.specs.State.{Takes, state_of}
use Rattle.speaker_model.specs.Effects.{text_row}
use Rattle.speaker.proofs.Speaker.put_text.Goals as goal

pub returns-in-Ok-clause-step : goal.returns-in-Ok-clause-step
returns-in-Ok-clause-step g c =
    let W = g.O.Output.writes in
    let s = state_of g.R.Rib.received c.args.self.now in
    let t = state_of g.R.Rib.received (record { settings = c.args.self.now.settings; sessions = c.args.self.now.sessions; server = c.put_in_force.new.self; outbox = c.put_in_force.new.sink; spare = c.put_in_force.new.policies }) in
    let content = content_of c.read.new.self in
    let row = PutInForce (policy_for content Import) (policy_for content Export) ∷ [] in
    let read = ap (λ n. meaning n c.args.text.now) (sym c.peer_count.ensures) ∙ c.in-Ok.ensures.read in
    subst (λ (l : List Event). Takes W (record { sessions = s.sessions; first = []; row = l }) s t) (sym (ap text_row read))
    (goes_by W s t s.sessions row refl c.put_in_force.ensures.same_size (λ j. refl) (one_event (SendsBy W) (size_of s.peers) (PutInForce (policy_for content Import) (policy_for content Export)) s.now t.now s.outbox t.outbox c.put_in_force.ensures.promise))

pub returns-in-Err-clause-step : goal.returns-in-Err-clause-step
returns-in-Err-clause-step g c =
    let W = g.O.Output.writes in
    let s = state_of g.R.Rib.received c.args.self.now in
    let read = ap (λ n. meaning n c.args.text.now) (sym c.peer_count.ensures) ∙ c.in-Err.ensures.read in
    subst (λ (l : List Event). Takes W (record { sessions = s.sessions; first = []; row = l }) s s) (sym (ap text_row read)) (goes_on W s s s.sessions refl refl refl refl (λ j. refl))
