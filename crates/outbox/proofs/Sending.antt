-- An update that was put out. Assumes nothing.
use Rattle.std.proofs.Common.{◌≡◌, ℕ, true, List, Some, None, Option, sym, subst, arith}
use Rattle.message_laws.specs.RoundTrip.{Sendable}
use Rattle.message_write.specs.Written.{withdrawal_bytes, announcement_bytes}
use Rattle.outbox.specs.Frames.{Carries, update_bytes}
use Rattle.outbox.specs.Outbox.{Box, Puts, Sends}
use Rattle.prefix.specs.Laws.{Bounded, Inverse}
use Rattle.prefix.specs.Prefix.{Prefix, is_prefix, number, prefix_of}
use Rattle.route.specs.Route.{Route}

module _ {O : Type 0} (W : O → List ℕ → O → Type 0) (s t : Box O) (i : ℕ) (p : Prefix) (one : is_prefix p.address p.length ≡ true) (bounded : Bounded) where
  pub announced : (x : Option Route) (r : Route) → x ≡ Some r → Sendable r → Puts W s (Carries i (announcement_bytes r s.address)) t → Sends W s (record { peer = i; prefix = number p; route = x }) t
  announced x r e ok h = record {
    puts = subst (λ y. Puts W s (Carries i (update_bytes s.address (number p) y)) t) (sym e) h;
    tellable = record { numbered = bounded p one; sendable = λ q f. let same : r ≡ q = cc in subst Sendable same ok };
  }

  pub withdrawn : Inverse → (x : Option Route) → x ≡ None → Puts W s (Carries i (withdrawal_bytes p)) t → Sends W s (record { peer = i; prefix = number p; route = x }) t
  withdrawn inverse x e h =
      let named : Puts W s (Carries i (withdrawal_bytes (prefix_of (number p)))) t = subst (λ q. Puts W s (Carries i (withdrawal_bytes q)) t) (sym (inverse p one)) h in
      record {
        puts = subst (λ y. Puts W s (Carries i (update_bytes s.address (number p) y)) t) (sym e) named;
        tellable = record { numbered = bounded p one; sendable = λ q f. let never : ◌≡◌ {A = ℕ} 0 1 = cc in absurd (omega arith) };
      }
