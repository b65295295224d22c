-- A message is its header and its body. Assumes nothing.
use Rattle.std.proofs.Common.{◌≡◌, ℕ, ◌+◌, ◌<◌, ◌≤◌, List, [], ◌∷◌, ◌++◌, length, drop, Some, None, Option, sym, refl, ap, ◌∙◌, subst, arith, length-append}
use Rattle.message_write.proofs.Puts.{join}
use Rattle.message_write.specs.Put.{Put, Puts, Wrote}
use Rattle.message_write.specs.Written.{header_bytes, message_bytes, withdrawal_body, announcement_body, prefix_bytes, attributes_bytes}
use Rattle.message_write.specs.declared.Writer.{Writer}
use Rattle.prefix.specs.Prefix.{Prefix}
use Rattle.route.specs.Route.{Route}
use Rattle.std.proofs.lemmas.List.{take-append-drop}
use Rattle.std.proofs.lemmas.Bool.{cond-true, cond-false, le-leb, lt-leb}

header_long : (kind n : ℕ) → length (header_bytes kind n) ≡ 19
unfolding header_bytes
header_long kind n = refl

pub message_long : (kind : ℕ) (body : List ℕ) → length (message_bytes kind body) ≡ 19 + length body
message_long kind body = omega (arith, header_long kind (19 + length body), length-append (header_bytes kind (19 + length body)) body)

-- what was put at the front is what was written
whole : (bytes before after : List ℕ) (end : ℕ) → length bytes ≤ length before → Put 0 bytes before after end → Wrote bytes before after (Some end)
whole bytes before after end h p =
    let fits = le-leb (length bytes) (length before) h in
    let at_end_lem : end ≡ length bytes = omega (arith, p.ended) in
    record {
      count = ap Some at_end_lem ∙ sym (cond-true _ _ _ fits);
      left = sym (take-append-drop end after) ∙ ap (λ l. l ++ drop end after) p.front ∙ ap (λ l. bytes ++ l) (p.behind end (omega arith) ∙ ap (λ n. drop n before) at_end_lem) ∙ sym (cond-true _ _ _ fits);
    }

-- a message is its header and its body
pub done : (kind size : ℕ) (body : List ℕ) (a b c : Writer) → a.end ≡ 0 → size ≡ 19 + length body → size ≤ length a.buffer.now → Puts (header_bytes kind size) a b → Puts body b c → Wrote (message_bytes kind body) a.buffer.now c.buffer.now (Some c.end)
done kind size body a b c z e h p q =
    let first = subst (λ n. Puts (header_bytes kind n) a b) e p in
    let all = join a b c (header_bytes kind (19 + length body)) body (message_bytes kind body) first q refl in
    whole (message_bytes kind body) a.buffer.now c.buffer.now c.end (omega (arith, message_long kind body)) (subst (λ n. Put n (message_bytes kind body) a.buffer.now c.buffer.now c.end) z all.put)

pub refused : (kind size : ℕ) (body before : List ℕ) → size ≡ 19 + length body → length before < size → Wrote (message_bytes kind body) before before None
refused kind size body before e h =
    let short = lt-leb (length (message_bytes kind body)) (length before) (omega (arith, message_long kind body)) in
    record { count = sym (cond-false _ _ _ short); left = sym (cond-false _ _ _ short) }

-- how long the body of an UPDATE is
pub record BodySteps : Type 0 where
  pub withdrawal : (p : Prefix) → length (withdrawal_body p) ≡ 4 + length (prefix_bytes p)
  pub announcement : (r : Route) (hop : ℕ) → length (announcement_body r hop) ≡ 4 + length (attributes_bytes r hop) + length (prefix_bytes r.prefix)

pub body_steps : BodySteps
body_steps = record {
  withdrawal = λ p. omega (arith, length-append (prefix_bytes p) (0 ∷ 0 ∷ []));
  announcement = λ r hop. omega (arith, length-append (attributes_bytes r hop) (prefix_bytes r.prefix));
}

-- what a writer's buffer ends as is what the buffer that was lent to it ends as
pub same_end : (bytes before after left : List ℕ) (answer : Option ℕ) → Wrote bytes before after answer → left ≡ after → Wrote bytes before left answer
same_end bytes before after left answer w e = subst (λ l. Wrote bytes before l answer) (sym e) w
