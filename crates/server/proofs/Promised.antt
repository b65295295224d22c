-- From the inner steps to the promise, for the parts of a server. Assumes nothing.
use Rattle.std.proofs.Common.{◌≡◌, ℕ, ◌<◌, ◌≤◌, Bool, true, false, cond, ◌&&◌, eqb, ltb, leb, [], None, Option, sym, refl, ap, ◌∙◌, subst, arith}
use Rattle.model.proofs.Capacity.{stored_more, in_capacity}
use Rattle.model.proofs.Lifting.{lift}
use Rattle.model.specs.Model.{Event, Establishes, GoDown, PutInForce, Now, says, step, after}
use Rattle.model.specs.Stands.{Alike, Sound, Stands, Promised}
use Rattle.model.specs.Updates.{Update}
use Rattle.peers.specs.Members.{is_member}
use Rattle.peers.specs.declared.PeerSet.{PeerSet}
use Rattle.policy.specs.Policy.{Policy}
use Rattle.prefix.specs.Prefix.{count}
use Rattle.rib.specs.Received.{Received, updated, is_route, stored, capacity, most_peers}
use Rattle.route.specs.Route.{Route}
use Rattle.selection.specs.Meant.{rules_of}
use Rattle.server.proofs.Steps.{Plain, ignored, stored_all, outside_none, kept_steps, silenced_steps, welcomed_steps, replaced_steps, members_alike, no_room_alike}
use Rattle.server.specs.Facts.{Kept, Silenced, Welcomed, Replaced}
use Rattle.server.specs.Meant.{size_of, now_of, members_below}
use Rattle.std.proofs.lemmas.Bool.{and_parts, both_ways, cond-false, le-leb, ltb-true, lt-ltb}
use Rattle.std.proofs.lemmas.Bool.Decides.{nat_tests as tests}

-- the parts of a server, with policies of any kind
pub record Parts (Pol : Type 0) : Type 0 where
  pub own : ℕ
  pub peers : ℕ
  pub policies : Pol
  pub up : PeerSet
  pub received : Received

abbrev pub parts : {Pol : Type 0} → ℕ → ℕ → Pol → PeerSet → Received → Parts Pol
parts own peers policies up received = record { own = own; peers = peers; policies = policies; up = up; received = received }

module _ {Pol : Type 0} (imp exp : Pol → ℕ → Policy) {S : Type 0} (R : S → Update → S → Type 0) where
  abbrev now_in : Parts Pol → Now
  now_in v = now_of v.own (imp v.policies) (exp v.policies) v.up v.received

  -- the word of a peer that isn't heard
  pub promised_ignored : (v : Parts Pol) (from : S) (e : Event) (i p : ℕ) (x : Option Route) → Plain e → ((s : Now) → step (size_of v.peers) e s ≡ says (size_of v.peers) i p x s) → (ltb i v.peers && is_member v.up i) ≡ false → Promised (size_of v.peers) e (now_in v) (now_in v) R from from
  promised_ignored v from e i p x plain word deaf =
      lift (size_of v.peers) e (now_in v) (now_in v) R from from (ignored R (size_of v.peers) e (now_in v) from plain (word (now_in v) ∙ cond-false (ltb i v.peers && (ltb p count && is_member v.up i)) _ (now_in v) (not_heard (ltb i v.peers) (ltb p count) (is_member v.up i) deaf)))
    where
      not_heard : (a b c : Bool) → (a && c) ≡ false → (a && (b && c)) ≡ false
      not_heard true true c h = h
      not_heard true false c h = refl
      not_heard false b c h = refl

  -- what is kept of one peer more is kept of all
  room_of : (v : Parts Pol) (i p : ℕ) (x : Option Route) → Sound (size_of v.peers) (now_in v) → i < v.peers → stored most_peers count (updated i p x v.received) ≡ stored v.peers count (updated i p x v.received)
  room_of v i p x sound there = stored_all v.peers count (updated i p x v.received) sound.few (λ k q h. past k q h (v.received k q) (outside_none (size_of v.peers) (now_in v) sound k q h))
    where
      past : (k q : ℕ) → v.peers ≤ k → (y : Option Route) → y ≡ None → cond (eqb k i && eqb q p) x y ≡ None
      past k q h y e = grind (arith, tests)

  -- a word that is kept
  pub promised_kept : (v w : Parts Pol) (from to : S) (e : Event) (i p : ℕ) (x : Option Route) → Plain e → ((s : Now) → step (size_of v.peers) e s ≡ says (size_of v.peers) i p x s) → (ltb i v.peers && is_member v.up i) ≡ true → p < count → (Sound (size_of v.peers) (now_in v) → leb (stored v.peers count (updated i p x v.received)) capacity ≡ true) → w.own ≡ v.own → w.policies ≡ v.policies → w.up ≡ v.up → Kept R (rules_of v.own (imp v.policies) (exp v.policies)) v.peers (is_member v.up) i p x v.received w.received from to → Promised (size_of v.peers) e (now_in v) (now_in w) R from to
  promised_kept v w from to e i p x plain word heard within room own policies up facts =
      let parts = and_parts (ltb i v.peers) (is_member v.up i) heard in
      lift (size_of v.peers) e (now_in v) (now_in w) R from to
      (λ sound. kept_steps R v.peers e (now_in v) from to sound plain i p x (word (now_in v)) (ltb-true i v.peers parts.0) within parts.1 (room sound) (now_in w) (λ k. record { rules = rules_of (own k) (imp (policies k)) (exp (policies k)); up = is_member (up k); received = λ j q. facts.now j q k }) facts)

  pub room_there : (v : Parts Pol) (i p : ℕ) (x : Option Route) (b : Bool) → (ltb i most_peers && leb (stored most_peers count (updated i p x v.received)) capacity) ≡ b → (ltb i v.peers && is_member v.up i) ≡ true → Sound (size_of v.peers) (now_in v) → leb (stored v.peers count (updated i p x v.received)) capacity ≡ b
  room_there v i p x b fits heard sound =
      let there = ltb-true i v.peers (and_parts (ltb i v.peers) (is_member v.up i) heard).0 in
      ap (λ k. leb k capacity) (sym (room_of v i p x sound there)) ∙ sym (ap (λ a. a && leb (stored most_peers count (updated i p x v.received)) capacity) (lt-ltb i most_peers (omega (arith, sound.few)))) ∙ fits

  -- a withdrawal needs no room
  pub room_withdrawn : (v : Parts Pol) (i p : ℕ) → Sound (size_of v.peers) (now_in v) → leb (stored v.peers count (updated i p None v.received)) capacity ≡ true
  room_withdrawn v i p sound = le-leb _ capacity (omega (arith, sound.fits, stored_more v.peers count (updated i p None v.received) v.received (λ j q. less j q (v.received j q))))
    where
      less : (j q : ℕ) (y : Option Route) → is_route (cond (eqb j i && eqb q p) None y) ≡ true → is_route y ≡ true
      less j q y h = grind (arith, tests)

  -- sessions that go down
  pub promised_silenced : (v w : Parts Pol) (from to : S) (set : ℕ → Bool) → w.own ≡ v.own → w.policies ≡ v.policies → Silenced R (rules_of v.own (imp v.policies) (exp v.policies)) v.peers set v.received w.received (is_member v.up) (is_member w.up) from to → Promised (size_of v.peers) (GoDown (members_below v.peers set)) (now_in v) (now_in w) R from to
  promised_silenced v w from to set own policies facts =
      lift (size_of v.peers) (GoDown (members_below v.peers set)) (now_in v) (now_in w) R from to
      (λ sound. silenced_steps R v.peers (GoDown (members_below v.peers set)) (now_in v) from to sound (record { begins_nothing = refl }) set (now_in w) (λ k. record { rules = rules_of (own k) (imp (policies k)) (exp (policies k)); up = λ j. facts.up j k; received = λ j q. facts.now j q k }) (members_alike (now_in v) set v.peers) facts.sends)

  -- an announcement for which there is no room
  pub promised_no_room : (v u w : Parts Pol) (from from' to : S) (e : Event) (i p : ℕ) (x : Option Route) (set : ℕ → Bool) → Plain e → ((s : Now) → step (size_of v.peers) e s ≡ says (size_of v.peers) i p x s) → (ltb i v.peers && is_member v.up i) ≡ true → p < count → (Sound (size_of v.peers) (now_in v) → leb (stored v.peers count (updated i p x v.received)) capacity ≡ false) → ((j : ℕ) → set j ≡ (eqb j i && ltb i most_peers)) → u ≡ v → from' ≡ from → w.own ≡ u.own → w.policies ≡ u.policies → Silenced R (rules_of u.own (imp u.policies) (exp u.policies)) u.peers set u.received w.received (is_member u.up) (is_member w.up) from' to → Promised (size_of v.peers) e (now_in v) (now_in w) R from to
  promised_no_room v u w from from' to e i p x set plain word heard within full only same began own' policies' facts' =
      let own = own' ∙ ap (λ a. a.own) same in
      let policies = policies' ∙ ap (λ a. a.policies) same in
      let facts = subst (λ f. Silenced R (rules_of v.own (imp v.policies) (exp v.policies)) v.peers set v.received w.received (is_member v.up) (is_member w.up) f to) began (subst (λ (a : Parts Pol). Silenced R (rules_of a.own (imp a.policies) (exp a.policies)) a.peers set a.received w.received (is_member a.up) (is_member w.up) from' to) same facts') in
      let parts = and_parts (ltb i v.peers) (is_member v.up i) heard in
      lift (size_of v.peers) e (now_in v) (now_in w) R from to
      (λ sound. silenced_steps R v.peers e (now_in v) from to sound plain set (now_in w) (λ k. record { rules = rules_of (own k) (imp (policies k)) (exp (policies k)); up = λ j. facts.up j k; received = λ j q. facts.now j q k })
      (subst (Alike (size_of v.peers) _) (sym (word (now_in v))) (no_room_alike v.peers (now_in v) i p x set only sound.few (ltb-true i v.peers parts.0) within parts.1 (full sound))) facts.sends)

  -- a session that comes up
  pub promised_welcomed : (v w : Parts Pol) (from to : S) (i : ℕ) → i < v.peers → is_member v.up i ≡ false → w.own ≡ v.own → w.policies ≡ v.policies → Welcomed R (rules_of v.own (imp v.policies) (exp v.policies)) v.peers i v.received w.received (is_member v.up) (is_member w.up) from to → Promised (size_of v.peers) (Establishes i) (now_in v) (now_in w) R from to
  promised_welcomed v w from to i there was_down own policies facts =
      lift (size_of v.peers) (Establishes i) (now_in v) (now_in w) R from to
      (λ sound. welcomed_steps R v.peers (Establishes i) (now_in v) from to sound i refl there was_down (now_in w) (λ k. record { rules = rules_of (own k) (imp (policies k)) (exp (policies k)); up = λ j. facts.up j k; received = λ j q. facts.now j q k }) facts.sends)

  -- policies that are put in force
  pub promised_replaced : (v w : Parts Pol) (from to : S) (new : Pol) → w.own ≡ v.own → w.policies ≡ new → w.up ≡ v.up → Replaced R (rules_of v.own (imp v.policies) (exp v.policies)) (rules_of v.own (imp new) (exp new)) v.peers v.received w.received (is_member v.up) from to → Promised (size_of v.peers) (PutInForce (imp new) (exp new)) (now_in v) (now_in w) R from to
  promised_replaced v w from to new own policies up facts =
      lift (size_of v.peers) (PutInForce (imp new) (exp new)) (now_in v) (now_in w) R from to
      (λ sound. replaced_steps R v.peers (PutInForce (imp new) (exp new)) (now_in v) from to sound (imp new) (exp new) refl (now_in w) (λ k. record { rules = rules_of (own k) (imp (policies k)) (exp (policies k)); up = is_member (up k); received = λ j q. facts.now j q k }) facts.sends)

  -- at the start nobody has announced anything
  pub stands_at_start : (v : Parts Pol) → v.peers ≤ most_peers → ((i : ℕ) → is_member v.up i ≡ false) → ((i p : ℕ) → v.received i p ≡ None) → Stands (size_of v.peers) (rules_of v.own (imp v.policies) (exp v.policies)) (now_in v) []
  unfolding after
  stands_at_start v few none empty = record {
    sound = record { few = few; outside = λ i h. none i; silent = λ i p h. empty i p; fits = omega (arith, stored_more v.peers count v.received (λ i p. None) (λ i p h. absurd (both_ways (is_route (v.received i p)) (ap is_route (empty i p)) h)), in_capacity (size_of v.peers) (rules_of v.own (imp v.policies) (exp v.policies)) []) };
    alike = record { own = refl; imports = λ i h. refl; exports = λ i h. refl; up = λ i h. none i; received = λ i p h l. empty i p };
  }
