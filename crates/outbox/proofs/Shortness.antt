-- No message that is put out has more than 256 bytes. Assumes nothing.
use Rattle.std.proofs.Common.{◌≡◌, ℕ, ◌≤◌, true, ◌⊎◌, List, length, inl, inr, arith}
use Rattle.message_write.proofs.Messages.{message_long, body_steps}
use Rattle.message_write.proofs.Sizes.{short, prefix_steps, size_steps}
use Rattle.message_write.specs.Written.{header_bytes, communities_bytes, keepalive_bytes, notification_bytes, open_bytes, prefix_bytes, withdrawal_body, withdrawal_bytes, announcement_body, announcement_bytes}
use Rattle.prefix.specs.Prefix.{Prefix, is_prefix}
use Rattle.route.specs.Route.{Route, Formed}
use Rattle.std.proofs.lemmas.Bool.{cases_eq}

prefix_short : (p : Prefix) → is_prefix p.address p.length ≡ true → length (prefix_bytes p) ≤ 4
prefix_short p h = let few = short p h in omega (arith, prefix_steps.size p h)

communities_short : (cs : List ℕ) → length cs ≤ 8 → length (communities_bytes cs) ≤ 35
communities_short cs few = by (cases_eq (length cs) 0)
  where
    by : (length cs ≡ 0) ⊎ (length cs ≡ 0 → ⊥) → length (communities_bytes cs) ≤ 35
    by (inl e) = omega (arith, size_steps.no_communities cs e)
    by (inr e) = omega (arith, size_steps.communities cs (omega arith))

pub keepalive : length keepalive_bytes ≤ 256
unfolding header_bytes
keepalive = omega arith

pub notification : (k : ℕ) → length (notification_bytes k) ≤ 256
unfolding header_bytes
notification k = omega arith

pub opened : (own address : ℕ) → length (open_bytes own address) ≤ 256
unfolding header_bytes
opened own address = omega arith

pub withdrawn : (p : Prefix) → is_prefix p.address p.length ≡ true → length (withdrawal_bytes p) ≤ 256
withdrawn p h = omega (arith, message_long 2 (withdrawal_body p), body_steps.withdrawal p, prefix_short p h)

pub announced : (r : Route) (hop : ℕ) → Formed r → length (announcement_bytes r hop) ≤ 256
announced r hop f = omega (arith, message_long 2 (announcement_body r hop), body_steps.announcement r hop, size_steps.attributes r hop, communities_short r.communities f.communities_are_few, f.path_is_short, prefix_short r.prefix f.prefix_is_one)

pub ruleset shortness = (keepalive, notification, opened, withdrawn, announced)
