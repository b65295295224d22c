use Rattle.std.proofs.Common.{sym, refl, ap, ◌∙◌, subst}
use Rattle.model.specs.Model.{at}
use Rattle.session.specs.declared.Phase.{Phase}
use Rattle.speaker.proofs.Steps.{goes_on, same_at}
use Rattle.speaker.specs.State.{Takes, state_of}
use Rattle.speaker_model.specs.Effects.{phase_effect}
use Rattle.speaker_model.specs.World.{member_of, peer_step}
use Rattle.speaker.proofs.Speaker.receive.Goals as goal

pub returns-in-Down : goal.returns-in-Down
returns-in-Down g c =
    let W = g.O.Output.writes in
    let i = c.args.peer in
    let s = state_of g.R.Rib.received c.args.self.now in
    let off = ap (λ v. v.phase) (sym c.get.ensures) ∙ sym c.phase.ensures ∙ c.in-Down.is in
    subst (λ (p : Phase). Takes W (peer_step i (phase_effect (member_of s.exchange i) i s.now.received c.args.message.now (s.sessions i) p) s.sessions) s s) (sym off)
    (goes_on W s s (at i (s.sessions i) s.sessions) refl refl refl refl (same_at i s.sessions))
