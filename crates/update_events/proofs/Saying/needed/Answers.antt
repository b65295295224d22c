use Rattle.std.proofs.Common.{◌≡◌, ℕ, ◌+◌, cond, refl, ap, arith, ◌∙◌, sym, rules}
use Rattle.prefix.specs.Meant.{meant}
use Rattle.prefix.specs.Prefix.{count, number}
use Rattle.rib.specs.Received.{count_of}
use Rattle.update.specs.Meant.{content_meant}
use Rattle.update_events.proofs.Words.{count_more, count_skips}
use Rattle.update_events.proofs.Saying.needed.Goals as goal
use Rattle.update_events.proofs.Saying.needed.Goals.{then-needs_place, else-needs_place}
use Rattle.update_events.specs.Words.{NextNamed, Unnamed}

pub loop-prefix-init : goal.loop-prefix-init
unfolding count_of
loop-prefix-init g c = record { counted = refl; few = omega arith; known = omega arith }

pub loop-prefix-preserved : goal.loop-prefix-preserved
loop-prefix-preserved g c =
    let s = c.args.self.now in
    let next : NextNamed s.message.now c.loop-prefix.from (number (meant c.in-Some.prefix)) = c.in-Some.ensures in
    let counted = λ (more : c.if-needs_place.places ≡ c.loop-prefix.places + cond c.needs_place.result 1 0). count_more s.peer (content_meant s.content.now) s.message.now (g.R.Rib.received c.args.rib.now) c.loop-prefix.from c.number-from.result _ c.loop-prefix.places c.if-needs_place.places c.needs_place.result next c.number-from.ensures.value c.loop-prefix.invariant.counted c.needs_place.ensures more in
    elim c.if-needs_place.branch [
      | then-needs_place w ↦
          let one : cond {A = ℕ} c.needs_place.result 1 0 ≡ 1 = ap (λ b. cond b 1 0) w.if-needs_place.true in
          record { counted = counted (omega arith); few = omega arith; known = omega arith }
      | else-needs_place w ↦
          let none : cond {A = ℕ} c.needs_place.result 1 0 ≡ 0 = ap (λ b. cond b 1 0) w.if-needs_place.false in
          record { counted = counted (omega arith); few = omega arith; known = omega arith }
    ]

pub returns : goal.returns
returns g c =
    let s = c.args.self.now in
    let none : Unnamed s.message.now c.loop-prefix.from count = search rules in
    c.loop-prefix.invariant.counted ∙ sym (count_skips s.peer (content_meant s.content.now) s.message.now (g.R.Rib.received c.args.rib.now) c.loop-prefix.from count c.loop-prefix.invariant.known none)
