use Rattle.std.proofs.Common.{◌≡◌, ℕ, Result, Ok, Err, Some, MatchResult, [], sym, refl, ap, ◌∙◌, subst, arith}
use Rattle.std.specs.Result.{result_ok}
use Rattle.frame.specs.Settings.{exchange}
use Rattle.model.specs.Stands as model
use Rattle.policy_tables.specs.Meant.{content_of}
use Rattle.policy_tables.specs.Texts.{policy_for}
use Rattle.policy_tables.specs.declared.Direction.TheVariants.{Import, Export}
use Rattle.selection.specs.Meant.{rules_of}
use Rattle.server.specs.Meant.{size_of}
use Rattle.speaker.proofs.Starts.{rules_at_start_lem, stands_at_start}
use Rattle.speaker.specs.State.{state_of}
use Rattle.speaker.proofs.Speaker.new.Goals as goal

at_ok : {T E : Type 0} (r : Result T E) (P : T → Type 0) (Q : E → Type 0) (x : T) → Some x ≡ result_ok r → MatchResult r P Q → P x
at_ok (Ok y) P Q x e h = subst P (cc) h
at_ok (Err d) P Q x e h = absurd (cc)

pub returns : goal.returns
returns g c =
    let made = at_ok c.new.result _ _ c.in_ok-server.server c.in_ok-server.ensures.value c.new.ensures in
    let s = state_of g.R.Rib.received (record { settings = c.args.settings; sessions = c.new-2.result; server = c.in_ok-server.server; outbox = c.new-3.result; spare = c.args.spare }) in
    let rules = λ (own : ℕ). rules_of own (policy_for (content_of c.args.policies) Import) (policy_for (content_of c.args.policies) Export) in (
      refl,
      c.new-3.ensures.output_is,
      λ empty unread.
          stands_at_start g.O.Output.writes s (rules c.own_asn-own_asn.result) (made.0 ∙ c.peer_count.ensures) (omega (arith, made.1, c.peer_count.ensures)) c.new-2.ensures (c.new-3.ensures.own_is ∙ c.own_asn-own_asn.ensures) (c.new-3.ensures.address_is ∙ c.own_address.ensures)
          (ap rules c.own_asn-own_asn.ensures ∙ rules_at_start_lem (exchange c.args.settings) (content_of c.args.policies) unread)
          (subst (λ n. model.Stands (size_of n) (rules c.own_asn-own_asn.result) s.now []) (sym made.0) (made.2 empty)),
    )
