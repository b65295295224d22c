-- What is heard is what was told. Assumes nothing.
use Rattle.std.proofs.Common.{◌≡◌, ℕ, ◌+◌, ◌<◌, Bool, true, false, cond, ◌&&◌, eqb, ltb, List, [], ◌∷◌, ◌++◌, length, get_or, Some, None, Option, sym, refl, ap, ◌∙◌, arith}
use Rattle.attributes.specs.AsPath.{got, fault, path_in}
use Rattle.attributes.specs.Meaning.{Peer, no_fault}
use Rattle.hearing.specs.Hearing.{Row, server_in, changed, route_by, no_route, followed_reading, hears_as, hears, hears_frame, hears_all, held_by}
use Rattle.hearing.specs.Laws.{HearingLaws}
use Rattle.hearing.specs.Placed.{Placed, AllPlaced}
use Rattle.message.specs.Header.{kind_of}
use Rattle.message.specs.Message.{Updates, as_update, read_as, read_message}
use Rattle.message.specs.declared.Kind.TheVariants as a_kind
use Rattle.message.specs.declared.State.TheVariants.{Established}
use Rattle.message_laws.proofs.Trips.{header_back}
use Rattle.message_laws.proofs.Updates.{round_trip, sizes}
use Rattle.message_laws.specs.RoundTrip.{Sendable}
use Rattle.message_write.proofs.Messages.{message_long, body_steps}
use Rattle.message_write.specs.Written.{keepalive_bytes, notification_bytes, open_body, open_bytes, withdrawal_body, withdrawal_bytes, announcement_body, announcement_bytes}
use Rattle.model.specs.Updates.{Update, Held, Sent, Begins, Tells, follows, held_after, tells}
use Rattle.outbox.specs.Frames.{Frame, Carries, Closes, update_bytes, update_frame, update_frames}
use Rattle.outbox.specs.Laws.{AllTellable}
use Rattle.outbox.specs.Outbox.{Tellable}
use Rattle.prefix.proofs.Descent.{onto}
use Rattle.prefix.specs.Prefix.{Prefix, is_prefix, number, prefix_of}
use Rattle.route.specs.Route.{Route}
use Rattle.std.proofs.lemmas.Bool.{le-leb}
use Rattle.update.specs.Sections.{withdrawn_in}
use Rattle.update.specs.Update.{Attributes, Announces, Withdraws, Faulty, runs_over, update_fault, announces, attributes_of, attributes_said, value_at, content_of, read_update}
use Rattle.wire.specs.Nlri.{named}

-- messages that change nothing, and the OPEN
hears_keepalive : (address : ℕ) (row : Row) (p : ℕ) → hears address keepalive_bytes row p ≡ row p
unfolding hears
hears_keepalive address row p = ap (λ k. hears_as address keepalive_bytes k row p) (header_back 4 [] (omega arith) refl)

hears_notification : (address k : ℕ) (row : Row) (p : ℕ) → hears address (notification_bytes k) row p ≡ row p
unfolding hears
hears_notification address k row p = ap (λ t. hears_as address (notification_bytes k) t row p) (header_back 3 (6 ∷ k ∷ []) (omega arith) refl)

hears_open : (address own : ℕ) (row : Row) (p : ℕ) → hears address (open_bytes own address) row p ≡ None
unfolding hears
hears_open address own row p = ap (λ k. hears_as address (open_bytes own address) k row p) (header_back 1 (open_body own address) (omega arith) refl)

-- one prefix was named
changed_one : (said : Prefix → Option Route) (q : Prefix) (row : Row) (p : ℕ) → changed said (q ∷ []) row p ≡ cond (eqb p (number q)) (said q) (row p)
unfolding changed
changed_one said q row p = refl

changed_none : (said : Prefix → Option Route) (row : Row) (p : ℕ) → changed said [] row p ≡ row p
unfolding changed
changed_none said row p = refl

-- a withdrawal
module _ (address : ℕ) (q : Prefix) (one : is_prefix q.address q.length ≡ true) (row : Row) (p : ℕ) where
  withdrawal_kind : kind_of (withdrawal_bytes q) ≡ Some a_kind.Update
  withdrawal_kind =
      let long = message_long 2 (withdrawal_body q) in
      let size = sizes.withdrawn q one in
      header_back 2 (withdrawal_body q) (omega (arith, size.most)) (le-leb 23 (19 + length (withdrawal_body q)) (omega (arith, body_steps.withdrawal q)))

  hears_withdrawal : hears address (withdrawal_bytes q) row p ≡ cond (eqb p (number q)) None (row p)
  unfolding hears
  hears_withdrawal =
      ap (λ k. hears_as address (withdrawal_bytes q) k row p) withdrawal_kind
      ∙ ap (λ r. followed_reading (withdrawal_bytes q) r row p) (round_trip.withdrawn (server_in address (withdrawal_bytes q)) q one)
      ∙ ap (λ qs. changed no_route qs row p) (round_trip.withdrawn_named q one).0
      ∙ changed_one no_route q row p

-- what was read without a fault is what the attributes say
said : (x y z : Bool) (k : ℕ) (s a : Attributes) → as_update (cond x (fault 4) (got (cond y (Faulty k) (cond z (Announces s) Withdraws)))) ≡ got (Updates (Announces a)) → s ≡ a
said true y z k s a e = let never : ◌≡◌ {A = ℕ} 0 1 = cc in absurd (omega arith)
said false true z k s a e = let never : ◌≡◌ {A = ℕ} 0 1 = cc in absurd (omega arith)
said false false false k s a e = let never : ◌≡◌ {A = ℕ} 0 1 = cc in absurd (omega arith)
said false false true k s a e = cc

update_said : (peer : Peer) (m : List ℕ) (a : Attributes) → as_update (read_update peer m) ≡ got (Updates (Announces a)) → attributes_said (attributes_of m) ≡ a
unfolding read_update content_of
update_said peer m a e = said (runs_over m) (ltb (update_fault peer m) no_fault) (announces m) (update_fault peer m) (attributes_said (attributes_of m)) a e

-- an announcement
module _ (address : ℕ) (fits : address < 4294967296) (r : Route) (ok : Sendable r) (unpreferred : r.local_pref ≡ 0) (row : Row) (p : ℕ) where
  announcement_kind : kind_of (announcement_bytes r address) ≡ Some a_kind.Update
  announcement_kind =
      let long = message_long 2 (announcement_body r address) in
      let size = sizes.announced r address ok.formed in
      header_back 2 (announcement_body r address) (omega (arith, size.most)) (le-leb 23 (19 + length (announcement_body r address)) (omega (arith, body_steps.announcement r address)))

  abbrev attributes : Attributes
  attributes = record { path = r.path; med = r.med; communities = r.communities }

  path_said : path_in (value_at 2 (attributes_of (announcement_bytes r address))) ≡ r.path
  path_said =
      let from : Peer = record { asn = get_or r.path 0 0; address = address } in
      let m = announcement_bytes r address in
      let read = sym (ap (read_as Established from m) announcement_kind) ∙ round_trip.announced r address ok fits in
      ap (λ (a : Attributes). a.path) (update_said from m attributes read)

  read : read_message Established (server_in address (announcement_bytes r address)) (announcement_bytes r address) ≡ got (Updates (Announces attributes))
  read = ap (λ path. read_message Established (record { asn = get_or path 0 0; address = address }) (announcement_bytes r address)) path_said ∙ round_trip.announced r address ok fits

  route_back : route_by attributes r.prefix ≡ Some r
  route_back = ap Some (λ i. record { prefix = r.prefix; path = r.path; local_pref = sym unpreferred i; med = r.med; communities = r.communities })

  hears_announcement : hears address (announcement_bytes r address) row p ≡ cond (eqb p (number r.prefix)) (Some r) (row p)
  unfolding hears
  hears_announcement =
      let m = announcement_bytes r address in
      ap (λ k. hears_as address m k row p) announcement_kind
      ∙ ap (λ x. followed_reading m x row p) read
      ∙ ap (λ qs. changed (route_by attributes) qs (changed no_route (named (withdrawn_in m)) row) p) (round_trip.announced_named r address ok).1
      ∙ changed_one (route_by attributes) r.prefix (changed no_route (named (withdrawn_in m)) row) p
      ∙ ap (λ qs. cond (eqb p (number r.prefix)) (route_by attributes r.prefix) (changed no_route qs row p)) (round_trip.announced_named r address ok).0
      ∙ ap (λ x. cond (eqb p (number r.prefix)) (route_by attributes r.prefix) x) (changed_none no_route row p)
      ∙ ap (λ x. cond (eqb p (number r.prefix)) x (row p)) route_back

-- an update
hears_update : (address n : ℕ) (x : Option Route) (row : Row) (p : ℕ) → address < 4294967296 → Tellable (record { peer = 0; prefix = n; route = x }) → Placed (record { peer = 0; prefix = n; route = x }) → hears address (update_bytes address n x) row p ≡ cond (eqb p n) x (row p)
hears_update address n None row p fits t u =
    let named = onto n t.numbered in
    hears_withdrawal address (prefix_of n) named.0 row p ∙ ap (λ k. cond (eqb p k) None (row p)) named.1
hears_update address n (Some r) row p fits t u =
    hears_announcement address fits r (t.sendable r refl) (u.unpreferred r refl) row p ∙ ap (λ k. cond (eqb p k) (Some r) (row p)) (u.own_prefix r refl)

both : (a e : Bool) (x y : Option Route) → cond a (cond e x y) y ≡ cond (a && e) x y
both true e x y = refl
both false e x y = refl

module _ (address : ℕ) (fits : address < 4294967296) where
  hears_one : (u : Update) (held other : Held) → Tellable u → Placed u → ((j p : ℕ) → held j p ≡ other j p) → (j p : ℕ) → hears_frame address (update_frame address u) held j p ≡ follows (Tells u) other j p
  hears_one u held other t h same j p =
      let here = hears_update address u.prefix u.route (held j) p fits (record { numbered = t.numbered; sendable = t.sendable }) (record { own_prefix = h.own_prefix; unpreferred = h.unpreferred }) in
      ap (λ x. cond (eqb j u.peer) x (held j p)) here
      ∙ both (eqb j u.peer) (eqb p u.prefix) u.route (held j p)
      ∙ ap (λ x. cond (eqb j u.peer && eqb p u.prefix) u.route x) (same j p)

  hears_updates : (us : List Update) (held other : Held) → AllTellable us → AllPlaced us → ((j p : ℕ) → held j p ≡ other j p) → (j p : ℕ) → hears_all address held (update_frames address us) j p ≡ held_after other (tells us) j p
  unfolding update_frames hears_all held_after tells AllTellable AllPlaced
  hears_updates [] held other t h same j p = same j p
  hears_updates (u ∷ us) held other t h same j p = hears_updates us (hears_frame address (update_frame address u) held) (follows (Tells u) other) t.1 h.1 (hears_one u held other t.0 h.0 same) j p

hears_behind : (address : ℕ) (held : Held) (fs gs : List Frame) → hears_all address held (fs ++ gs) ≡ hears_all address (hears_all address held fs) gs
unfolding hears_all
hears_behind address held [] gs = refl
hears_behind address held (f ∷ fs) gs = hears_behind address (hears_frame address f held) fs gs

-- one frame more
hears_last : (address : ℕ) (before : List Frame) (f : Frame) (j p : ℕ) → held_by address (before ++ (f ∷ [])) j p ≡ hears_frame address f (held_by address before) j p
unfolding hears_all
hears_last address before f j p = ap (λ (h : Held). h j p) (hears_behind address (λ k q. None) before (f ∷ []))

either : (b : Bool) (x : Option Route) → cond b x x ≡ x
either true x = refl
either false x = refl

alone : (held other : Held) (ss : List Sent) (j : ℕ) → ((p : ℕ) → held j p ≡ other j p) → (p : ℕ) → held_after held ss j p ≡ held_after other ss j p
unfolding held_after
alone held other [] j same p = same p
alone held other (Begins i ∷ ss) j same p = alone (follows (Begins i) held) (follows (Begins i) other) ss j (λ q. ap (λ x. cond (eqb j i) None x) (same q)) p
alone held other (Tells u ∷ ss) j same p = alone (follows (Tells u) held) (follows (Tells u) other) ss j (λ q. ap (λ x. cond (eqb j u.peer && eqb q u.prefix) u.route x) (same q)) p

pub hearing : HearingLaws
hearing = record {
  updates = λ address before us fits t h j p. ap (λ (x : Held). x j p) (hears_behind address (λ k q. None) before (update_frames address us)) ∙ hears_updates address fits us (held_by address before) (held_by address before) t h (λ k q. refl) j p;
  opened = λ address own before i j p. hears_last address before (Carries i (open_bytes own address)) j p ∙ ap (λ x. cond (eqb j i) x (held_by address before j p)) (hears_open address own (held_by address before j) p);
  keepalive = λ address before i j p. hears_last address before (Carries i keepalive_bytes) j p ∙ ap (λ x. cond (eqb j i) x (held_by address before j p)) (hears_keepalive address (held_by address before j) p) ∙ either (eqb j i) (held_by address before j p);
  notification = λ address k before i j p. hears_last address before (Carries i (notification_bytes k)) j p ∙ ap (λ x. cond (eqb j i) x (held_by address before j p)) (hears_notification address k (held_by address before j) p) ∙ either (eqb j i) (held_by address before j p);
  closed = λ address before i j p. hears_last address before (Closes i) j p;
  alone = alone;
}
