-- What is written is read back. Assumes nothing.
use Rattle.std.specs.Prelude.{◌≡◌, ℕ, ◌<◌, ◌≤◌, true, List, [], ◌∷◌, length, slice_index}
use Rattle.attributes.specs.AsPath.{got}
use Rattle.attributes.specs.Meaning.{Peer}
use Rattle.message.specs.Message.{Opens, Updates, Notifies, KeepsAlive, read_message}
use Rattle.message.specs.declared.State.{State}
use Rattle.message.specs.declared.State.TheVariants.{OpenSent, Established}
use Rattle.message_write.specs.Written.{keepalive_bytes, notification_bytes, open_bytes, withdrawal_bytes, announcement_bytes}
use Rattle.prefix.specs.Prefix.{Prefix, is_prefix}
use Rattle.route.specs.Route.{Route, Formed}
use Rattle.update.specs.Sections.{withdrawn_in, announced_in}
use Rattle.update.specs.Update.{Announces, Withdraws}
use Rattle.wire.specs.Nlri.{named}

-- each number of the row has 32 bits
abbrev pub Fit : List ℕ → Type 0
Fit row = (i : ℕ) → slice_index row i < 4294967296

-- a route of numbers of 32 bits, as every route of the code is
pub record Sendable (r : Route) : Type 0 where
  pub formed : Formed r
  pub path_fits : Fit r.path
  pub med_fits : r.med < 4294967296
  pub communities_fit : Fit r.communities

-- 19 to 4096 bytes
pub record Sized (m : List ℕ) : Type 0 where
  pub least : 19 ≤ length m
  pub most : length m ≤ 4096

-- reading gives back what was written, without a fault, to a peer that is what it says
pub record RoundTrip : Type 0 where
  pub keepalive : (peer : Peer) → read_message Established peer keepalive_bytes ≡ got KeepsAlive
  pub notification : (state : State) (peer : Peer) (k : ℕ) → read_message state peer (notification_bytes k) ≡ got (Notifies 6 k)
  pub opened : (asn address from : ℕ) → asn < 4294967296 → address < 4294967296 → read_message OpenSent (record { asn = asn; address = from }) (open_bytes asn address) ≡ got (Opens (record { hold_time = 90; identifier = address }))
  pub withdrawn : (peer : Peer) (p : Prefix) → is_prefix p.address p.length ≡ true → read_message Established peer (withdrawal_bytes p) ≡ got (Updates Withdraws)
  pub withdrawn_named : (p : Prefix) → is_prefix p.address p.length ≡ true → (named (withdrawn_in (withdrawal_bytes p)) ≡ p ∷ []) × (named (announced_in (withdrawal_bytes p)) ≡ [])
  pub announced : (r : Route) (hop : ℕ) → Sendable r → hop < 4294967296 → read_message Established (record { asn = slice_index r.path 0; address = hop }) (announcement_bytes r hop) ≡ got (Updates (Announces (record { path = r.path; med = r.med; communities = r.communities })))
  pub announced_named : (r : Route) (hop : ℕ) → Sendable r → (named (withdrawn_in (announcement_bytes r hop)) ≡ []) × (named (announced_in (announcement_bytes r hop)) ≡ r.prefix ∷ [])

-- what is written has 19 to 4096 bytes
pub record Sizes : Type 0 where
  pub keepalive : Sized keepalive_bytes
  pub notification : (k : ℕ) → Sized (notification_bytes k)
  pub opened : (asn address : ℕ) → Sized (open_bytes asn address)
  pub withdrawn : (p : Prefix) → is_prefix p.address p.length ≡ true → Sized (withdrawal_bytes p)
  pub announced : (r : Route) (hop : ℕ) → Formed r → Sized (announcement_bytes r hop)
