-- Worked cases: what an event sends, after the events before it. Assumes nothing.
use Rattle.std.specs.Prelude.{◌≡◌, ℕ, ◌+◌, ◌*◌, false, List, [], ◌∷◌, ◌++◌, map, replicate, Some, None, Option}
use Rattle.model.specs.Model.{Event, Announces, Establishes, GoDown, PutInForce, at, sent}
use Rattle.model.specs.Updates.{Update}
use Rattle.policy.specs.Policy.{Test, Any, PrefixIn, Passes, HasCommunity, Action, Accept, Reject, SetLocalPref, Clause, Policy}
use Rattle.prefix.specs.Prefix.{Prefix, number}
use Rattle.route.specs.Route.{Route, with_communities}
use Rattle.selection.specs.Intended.{Rules}
use Rattle.server.specs.Meant.{size_of}

-- a peer is told of a prefix this route, or that there is none
pub record Advertised : Type 0 where
  pub peer : ℕ
  pub prefix : Prefix
  pub route : Option Route

-- as an update has it, where prefixes have these numbers
abbrev pub update_by : (Prefix → ℕ) → Advertised → Update
update_by number w = record { peer = w.peer; prefix = number w.prefix; route = w.route }

-- the events before, the latest first; the event; what it sends, in order
pub record Case : Type 0 where
  pub before : List Event
  pub event : Event
  pub sends : List Advertised

-- the own network is 5, and at first no peer has a policy
abbrev pub rules : Rules
rules = record { own = 5; imports = λ i. []; exports = λ i. [] }

-- of four peers, and all prefixes
abbrev pub Holds : Case → Type 0
Holds c = sent (size_of 4) rules c.event c.before ≡ map (update_by number) c.sends

unfoldable pub AllHold : List Case → Type 0
AllHold [] = Unit {0}
AllHold (c ∷ cs) = Holds c × AllHold cs

-- 10.0.0.0/8, and 10.k.0.0/16
abbrev pub eight : Prefix
eight = record { address = 167772160; length = 8 }

abbrev pub sixteen : ℕ → Prefix
sixteen k = record { address = 167772160 + k * 65536; length = 16 }

abbrev pub nine : List Prefix
nine = map sixteen (1 ∷ 2 ∷ 3 ∷ 4 ∷ 5 ∷ 6 ∷ 7 ∷ 8 ∷ 9 ∷ [])

-- a route to a prefix by a path, with nothing else
abbrev pub by : List ℕ → Prefix → Route
by path q = record { prefix = q; path = path; local_pref = 0; med = 0; communities = [] }

-- a peer is told of a prefix the route by a path, or that there is none
abbrev pub learns : ℕ → List ℕ → Prefix → Advertised
learns j path q = record { peer = j; prefix = q; route = Some (by path q) }

abbrev pub loses : ℕ → Prefix → Advertised
loses j q = record { peer = j; prefix = q; route = None }

-- policies: accept everything; or do something first with what fits a test
abbrev pub clause : Test → Action → Clause
clause test action = record { condition = record { negated = false; test = test } ∷ []; action = action }

abbrev pub accept_all : Policy
accept_all = clause Any Accept ∷ []

abbrev pub first : Test → Action → Policy
first test action = clause test action ∷ accept_all

abbrev pub everybody : ℕ → Policy
everybody i = accept_all

-- all sessions are up, and every policy accepts everything
abbrev pub opened : List Event
opened = PutInForce everybody everybody ∷ Establishes 3 ∷ Establishes 2 ∷ Establishes 1 ∷ Establishes 0 ∷ []

-- peer 1 announces 10.0.0.0/8 by 7, 9: all others are told 5, 7, 9
abbrev pub case_a : Case
case_a = record {
  before = opened;
  event = Announces 1 (by (7 ∷ 9 ∷ []) eight);
  sends = learns 0 (5 ∷ 7 ∷ 9 ∷ []) eight ∷ learns 2 (5 ∷ 7 ∷ 9 ∷ []) eight ∷ learns 3 (5 ∷ 7 ∷ 9 ∷ []) eight ∷ [];
}

-- then peer 2 announces it by 8: all but 2 are told 5, 8; 2 is told that there is none
abbrev pub case_b : Case
case_b = record {
  before = case_a.event ∷ case_a.before;
  event = Announces 2 (by (8 ∷ []) eight);
  sends = learns 0 (5 ∷ 8 ∷ []) eight ∷ learns 1 (5 ∷ 8 ∷ []) eight ∷ loses 2 eight ∷ learns 3 (5 ∷ 8 ∷ []) eight ∷ [];
}

-- after A, 2 announces it by 8, 5, which passes the own network: nobody is told anything
abbrev pub case_c : Case
case_c = record { before = case_a.event ∷ case_a.before; event = Announces 2 (by (8 ∷ 5 ∷ []) eight); sends = [] }

-- after B, the import policy of 1 prefers what passes 9: the route of 1 is selected, though its path is longer
abbrev pub case_d : Case
case_d = record {
  before = case_b.event ∷ case_b.before;
  event = PutInForce (at 1 (first (Passes 9) (SetLocalPref 200)) everybody) everybody;
  sends = learns 0 (5 ∷ 7 ∷ 9 ∷ []) eight ∷ loses 1 eight ∷ learns 2 (5 ∷ 7 ∷ 9 ∷ []) eight ∷ learns 3 (5 ∷ 7 ∷ 9 ∷ []) eight ∷ [];
}

-- after B, 2 announces the same again: nobody is told anything
abbrev pub case_e : Case
case_e = record { before = case_b.event ∷ case_b.before; event = Announces 2 (by (8 ∷ []) eight); sends = [] }

-- after B, the session of 2 goes down: all that are up but 1 are told 5, 7, 9; 1 is told that there is none
abbrev pub case_f : Case
case_f = record {
  before = case_b.event ∷ case_b.before;
  event = GoDown (2 ∷ []);
  sends = learns 0 (5 ∷ 7 ∷ 9 ∷ []) eight ∷ loses 1 eight ∷ learns 3 (5 ∷ 7 ∷ 9 ∷ []) eight ∷ [];
}

-- as A, with community 7 on the route of 1; the export policy of 3 rejects what has community 7: 3 is told that there is none
abbrev pub case_g : Case
case_g = record {
  before = Announces 1 (with_communities (7 ∷ []) (by (7 ∷ 9 ∷ []) eight)) ∷ opened;
  event = PutInForce everybody (at 3 (first (HasCommunity 7) Reject) everybody);
  sends = loses 3 eight ∷ [];
}

-- peer 1 has announced 10.0.0.0/8 and nine more prefixes; the export policy of 3 comes to bar the nine: it is told that there is none of each
abbrev pub barred : Case
barred = record {
  before = map (λ q. Announces 1 (by (7 ∷ 9 ∷ []) q)) nine ++ (case_a.event ∷ case_a.before);
  event = PutInForce everybody (at 3 (first (PrefixIn nine) Reject) everybody);
  sends = map (loses 3) nine;
}

-- the session of 3 goes down, the policy that barred the nine prefixes is replaced, and the session comes back: 3 is told of all ten
abbrev pub comes_back : Case
comes_back = record {
  before = PutInForce everybody everybody ∷ GoDown (3 ∷ []) ∷ barred.event ∷ barred.before;
  event = Establishes 3;
  sends = map (learns 3 (5 ∷ 7 ∷ 9 ∷ [])) (eight ∷ nine);
}

-- 1 and 2 have announced nine prefixes; policies that make the routes of 1 the best are put in force: everybody is told of every one
abbrev pub other_best : Case
other_best = record {
  before = map (λ q. Announces 2 (by (8 ∷ []) q)) nine ++ (map (λ q. Announces 1 (by (7 ∷ 9 ∷ []) q)) nine ++ opened);
  event = PutInForce (at 1 (first (Passes 9) (SetLocalPref 200)) everybody) everybody;
  sends = map (learns 0 (5 ∷ 7 ∷ 9 ∷ [])) nine ++ (map (loses 1) nine ++ (map (learns 2 (5 ∷ 7 ∷ 9 ∷ [])) nine ++ map (learns 3 (5 ∷ 7 ∷ 9 ∷ [])) nine));
}

-- after B, 2 has announced the same 20 times over, and does so again: nobody is told anything
abbrev pub repeated : Case
repeated = record { before = replicate 20 case_b.event ++ (case_b.event ∷ case_b.before); event = case_b.event; sends = [] }

abbrev pub cases : List Case
cases = case_a ∷ case_b ∷ case_c ∷ case_d ∷ case_e ∷ case_f ∷ case_g ∷ barred ∷ comes_back ∷ other_best ∷ repeated ∷ []

abbrev pub WorkedCases : Type 0
WorkedCases = AllHold cases
