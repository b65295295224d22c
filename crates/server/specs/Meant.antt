-- What the server's state stands for. Assumes nothing.
use Rattle.std.specs.Prelude.{◌≡◌, ℕ, zero, suc, Bool, cond, List, [], ◌∷◌}
use Rattle.model.specs.Model.{Size, Now}
use Rattle.peers.specs.Members.{is_member}
use Rattle.peers.specs.declared.PeerSet.{PeerSet}
use Rattle.policy.specs.Policy.{Policy}
use Rattle.prefix.specs.Prefix.{count}
use Rattle.rib.specs.Received.{Received, capacity}
use Rattle.selection.specs.Intended.{Rules}
use Rattle.selection.specs.Meant.{rules_in, rules_of}
use Rattle.selection.specs.declared.policies.PolicySource.{Ghosts as Sources}
use Rattle.rib.specs.declared.Rib.{Ghosts as Ribs}
use Rattle.server.specs.declared.Server.{Server}

-- n peers, all prefixes, and room for 16,384 routes
abbrev pub size_of : ℕ → Size
size_of n = record { peers = n; prefixes = count; capacity = capacity }

abbrev pub now_of : ℕ → (ℕ → Policy) → (ℕ → Policy) → PeerSet → Received → Now
now_of own imports exports up received = record { rules = rules_of own imports exports; up = is_member up; received = received }

-- the members of a set below n
unfoldable pub members_below : ℕ → (ℕ → Bool) → List ℕ
members_below zero set = []
members_below (suc n) set = cond (set n) (n ∷ members_below n set) (members_below n set)

-- what a server goes by: its rules; and with whose sessions are up and what each peer last announced, all
abbrev pub rules_of_server : {R P : Type 0} → Sources P → Server R P → Rules
rules_of_server source s = rules_in source s.own_asn s.policies

abbrev pub now_in : {R P : Type 0} → Ribs R → Sources P → Server R P → Now
now_in rib source s = now_of s.own_asn (source.imports s.policies) (source.exports s.policies) s.up (rib.received s.rib)

-- the own network, the peers and the policies are as they were
abbrev pub SameRules : {R P : Type 0} → Server R P → Server R P → Type 0
SameRules was is = (is.own_asn ≡ was.own_asn) × (is.peers ≡ was.peers) × (is.policies ≡ was.policies)
