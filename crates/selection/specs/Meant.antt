-- What the code's values stand for. Assumes nothing.
use Rattle.std.specs.Prelude.{ℕ}
use Rattle.policy.specs.Policy.{Policy}
use Rattle.route.specs.Meant.{route_of}
use Rattle.selection.specs.declared.Candidate.{Candidate as Stored}
use Rattle.selection.specs.declared.Rank.{Rank as StoredRank}
use Rattle.selection.specs.declared.View.{View}
use Rattle.selection.specs.declared.policies.PolicySource.{Ghosts as Sources}
use Rattle.rib.specs.declared.Rib.{Ghosts as Ribs}
use Rattle.rib.specs.Received.{Received, heard}
use Rattle.peers.specs.Members.{is_member}
use Rattle.selection.specs.Intended.{Rules, Candidate, Rank}

abbrev pub rules_of : ℕ → (ℕ → Policy) → (ℕ → Policy) → Rules
rules_of own imports exports = record { own = own; imports = imports; exports = exports }

abbrev pub candidate_of : Stored → Candidate
candidate_of c = record { peer = c.peer; route = route_of c.route }

abbrev pub rank_of : StoredRank → Rank
rank_of r = record { local_pref = r.local_pref; path_length = r.path_len; med = r.med; peer = r.peer }

-- the rules where policies stand in force
abbrev pub rules_in : {P : Type 0} → Sources P → ℕ → P → Rules
rules_in source own policies = rules_of own (source.imports policies) (source.exports policies)

-- the rules of a view, and what is heard in it
abbrev pub rules_seen : {R P : Type 0} → Sources P → View R P → Rules
rules_seen source v = rules_in source v.own_asn v.terms.policies.now

abbrev pub heard_seen : {R P : Type 0} → Ribs R → View R P → Received
heard_seen rib v = heard (is_member v.terms.silent) (rib.received v.rib.now)
