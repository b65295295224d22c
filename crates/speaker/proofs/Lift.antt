-- From the steps of one event to what is promised of it, whatever came before. Assumes nothing.
use Rattle.std.proofs.Common.{◌≡◌, ℕ, zero, suc, ◌+◌, ◌<◌, ◌≤◌, Bool, true, false, cond, ◌&&◌, ◌||◌, eqb, ltb, leb, List, [], ◌∷◌, ◌++◌, Some, None, Option, sym, refl, ap, ◌∙◌, subst, ⊎_elim, arith}
use Rattle.attributes.specs.AsPath.{Reading, got, fault}
use Rattle.attributes.specs.Meaning.{Peer}
use Rattle.frame.specs.Frame.{Happening, message, up, tick, policy_text}
use Rattle.frame.specs.Frame as frame
use Rattle.frame.specs.Settings.{Exchange}
use Rattle.message.specs.Message.{Message, Opens, Updates, Notifies, KeepsAlive, read_message}
use Rattle.message.specs.declared.State.TheVariants as at
use Rattle.message_write.specs.Written.{keepalive_bytes}
use Rattle.model.proofs.Chains.{join}
use Rattle.model.proofs.Lifting.{stored_alike}
use Rattle.model.specs.Chain.{Chain}
use Rattle.model.specs.Model.{Size, Event, Announces, Withdraws, Establishes, GoDown, PutInForce, Now, all_down, says, step, after}
use Rattle.model.specs.Model as model
use Rattle.model.specs.Rows.{then_all, sent_all, KeepsAll, PromisedAll}
use Rattle.model.specs.Stands.{Alike, Sound}
use Rattle.model.specs.Stands as model_stands
use Rattle.model.specs.Updates.{Update}
use Rattle.outbox.proofs.Rows.{told, put_out}
use Rattle.outbox.specs.Frames.{Frame, Carries, frame_bytes, reaches_any, update_frames}
use Rattle.outbox.specs.Laws.{Told, PutOut}
use Rattle.outbox.specs.Outbox.{Begun, Puts, SendsBy, box_of}
use Rattle.outbox.specs.declared.Outbox.{Outbox}
use Rattle.peers.specs.Members.{is_member}
use Rattle.prefix.specs.Prefix.{count}
use Rattle.rib.specs.Received.{Received, updated, is_route, stored, capacity, most_peers}
use Rattle.rib.specs.Received as rib
use Rattle.route.specs.Route.{Route}
use Rattle.selection.specs.Intended.{Rules}
use Rattle.server.proofs.Steps.{stored_all, outside_none}
use Rattle.server.specs.Meant.{size_of}
use Rattle.session.specs.Session.{Session, down, sent_now, heard_now, is_established, is_keepalive_due}
use Rattle.session.specs.declared.Phase.{Phase}
use Rattle.session.specs.declared.Phase.TheVariants.{Down, OpenSent, Established}
use Rattle.sessions.specs.Sessions.{sent_to}
use Rattle.speaker.specs.Serves.{Stands, Served, Finishes, with_outbox, Lifts}
use Rattle.speaker.specs.State.{State, Level, Addressed, Takes}
use Rattle.speaker_model.proofs.Agreeing.{agree, step_agrees, noted_down}
use Rattle.speaker_model.specs.Agree.{Agrees}
use Rattle.speaker_model.specs.Effects.{taken_down, established_effect, phase_effect, message_effect}
use Rattle.speaker_model.specs.World.{World, count_of, size_in, rules_at_start, now_in, member_of, Step, peer_step, step_by, step_of, noted, keepalives, keepalives_at, step_frames, frames_of, world_of, world_after}
use Rattle.std.proofs.lemmas.Bool.{cases_lt, cond_both, and_parts, ltb-true}
use Rattle.std.proofs.lemmas.Bool.Decides.{nat_tests as tests}
use Rattle.update.specs.Update.{Content}
use Rattle.update_events.specs.Words.{words, is_announced, needs_if, needs, lacks_room}

-- in the model a peer that there isn't has announced nothing
abbrev Quiet : Size → Now → Type 0
Quiet z s = (j p : ℕ) → z.peers ≤ j → s.received j p ≡ None

down_quiet : (z : Size) (i : ℕ) (s : Now) → Quiet z s → Quiet z (model.down i s)
down_quiet z i s h j p l = cond_both (eqb j i) None (s.received j p) (λ y. y ≡ None) (λ _. refl) (λ _. h j p l)

all_down_quiet : (z : Size) (is : List ℕ) (s : Now) → Quiet z s → Quiet z (all_down is s)
unfolding all_down
all_down_quiet z [] s h = h
all_down_quiet z (i ∷ is) s h = down_quiet z i (all_down is s) (all_down_quiet z is s h)

says_quiet : (z : Size) (i p : ℕ) (x : Option Route) (s : Now) → Quiet z s → Quiet z (says z i p x s)
says_quiet z i p x s h =
    cond_both (ltb i z.peers && (ltb p z.prefixes && s.up i)) _ s (Quiet z)
    (λ c. cond_both (leb (stored z.peers z.prefixes (updated i p x s.received)) z.capacity) _ (model.down i s) (Quiet z)
    (λ _ j q l. unlike j q (s.received j q) (h j q l) (ltb-true i z.peers (and_parts (ltb i z.peers) _ c).0) l)
    (λ _. down_quiet z i s h))
    (λ _. h)
  where
    unlike : (j q : ℕ) (y : Option Route) → y ≡ None → i < z.peers → z.peers ≤ j → cond (eqb j i && eqb q p) x y ≡ None
    unlike j q y n a l = grind (arith, tests)

step_quiet : (z : Size) (e : Event) (s : Now) → Quiet z s → Quiet z (step z e s)
step_quiet z (Announces i r) s h = says_quiet z i _ (Some r) s h
step_quiet z (Withdraws i p) s h = says_quiet z i p None s h
step_quiet z (Establishes i) s h = down_quiet z i s h
step_quiet z (GoDown is) s h = all_down_quiet z is s h
step_quiet z (PutInForce imports exports) s h = h

after_quiet : (z : Size) (rules : Rules) (es : List Event) → Quiet z (after z rules es)
unfolding after
after_quiet z rules [] = λ j p l. refl
after_quiet z rules (e ∷ es) = step_quiet z e (after z rules es) (after_quiet z rules es)

-- an UPDATE has room in both or in neither
count_below : (m : ℕ) (f g : ℕ → Bool) → ((p : ℕ) → p < m → f p ≡ g p) → rib.count_of m f ≡ rib.count_of m g
unfolding rib.count_of
count_below zero f g h = refl
count_below (suc m) f g h = λ k. cond (h m (omega arith) k) 1 0 + count_below m f g (λ p l. h p (omega arith)) k

needs_alike : (i : ℕ) (c : Content) (m : List ℕ) (f g : Received) (p : ℕ) → f i p ≡ g i p → needs i c m f p ≡ needs i c m g p
unfolding needs
needs_alike i c m f g p h = ap (λ y. needs_if c (is_announced m p) (is_route y)) h

module _ (n : ℕ) (few : n ≤ most_peers) (s t : Now) (sound : Sound (size_of n) s) (quiet : Quiet (size_of n) t) (alike : Alike (size_of n) s t) where
  stored_both : stored most_peers count s.received ≡ stored most_peers count t.received
  stored_both = stored_all n count s.received few (outside_none (size_of n) s sound) ∙ stored_alike (size_of n) s t alike n (omega arith) ∙ sym (stored_all n count t.received few quiet)

  room_both : (i : ℕ) → i < n → (c : Content) (m : List ℕ) → lacks_room i c m s.received ≡ lacks_room i c m t.received
  room_both i there c m =
      let needed-both = count_below count (needs i c m s.received) (needs i c m t.received) (λ p l. needs_alike i c m s.received t.received p (alike.received i p there l)) in
      λ k. ltb capacity (stored_both k + needed-both k)

-- so a message does the same by both
module _ (i : ℕ) (m : List ℕ) (f g : Received) (same : (c : Content) → lacks_room i c m f ≡ lacks_room i c m g) where
  established_same : (v : Session) (r : Reading Message) → established_effect i f m v r ≡ established_effect i g m v r
  established_same v (fault k) = refl
  established_same v (got (Opens o)) = refl
  established_same v (got (Updates c)) = ap (λ b. cond b (taken_down i 9) (record { session = heard_now v; first = []; row = words i c m })) (same c)
  established_same v (got (Notifies code subcode)) = refl
  established_same v (got KeepsAlive) = refl

  phase_same : (peer : Peer) (v : Session) (phase : Phase) → phase_effect peer i f m v phase ≡ phase_effect peer i g m v phase
  phase_same peer v Down = refl
  phase_same peer v OpenSent = refl
  phase_same peer v Established = established_same v (read_message at.Established peer m)

module _ (x : Exchange) (few : count_of x ≤ most_peers) (w : World) (agrees : Agrees x w) (s : Now) (stands : model_stands.Stands (size_in x) (rules_at_start x) s w.events) where
  message_same : (i : ℕ) (m : List ℕ) → message_effect (member_of x i) i s.received m (w.sessions i) ≡ message_effect (member_of x i) i (now_in x w).received m (w.sessions i)
  message_same i m =
      ⊎_elim
      (λ l. phase_same i m s.received (now_in x w).received (λ c. room_both (count_of x) few s (now_in x w) stands.sound (after_quiet (size_in x) (rules_at_start x) w.events) stands.alike i l c m) (member_of x i) (w.sessions i) (w.sessions i).phase)
      (λ l. ap (message_effect (member_of x i) i s.received m) (agrees.outside i l) ∙ sym (ap (message_effect (member_of x i) i (now_in x w).received m) (agrees.outside i l)))
      (cases_lt i (count_of x))

  received_same : (h : Happening) → step_by x s.received h w.sessions ≡ step_of x h w
  received_same (message i m) = ap (λ e. peer_step i e w.sessions) (message_same i m)
  received_same (up i) = refl
  received_same (frame.down i) = refl
  received_same tick = refl
  received_same (policy_text t) = refl

  -- THE STEP BY THE STATE IS THE STEP BY THE WORLD
  step_same : (h : Happening) (sessions : ℕ → Session) → ((i : ℕ) → sessions i ≡ w.sessions i) → step_by x s.received h sessions ≡ step_of x h w
  step_same h sessions same = ap (step_by x s.received h) (λ k i. same i k) ∙ received_same h

-- the clocks by the set of those that were reached are the clocks by the frames
sent_noted : (set : ℕ → Bool) (fs : List Frame) (f g : ℕ → Session) (j : ℕ) → set j ≡ reaches_any j fs → f j ≡ g j → sent_to set f j ≡ noted fs g j
unfolding sent_to noted
sent_noted set fs f g j a e = λ k. cond (a k) (sent_now (e k)) (e k)

sent_down : (set : ℕ → Bool) (f : ℕ → Session) (j : ℕ) → f j ≡ down → sent_to set f j ≡ down
unfolding sent_to
sent_down set f j h = cond_both (set j) (sent_now (f j)) (f j) (λ v. v ≡ down) (λ _. ap sent_now h) (λ _. h)

-- keepalives go by the sessions of the peers that there are
keepalives_same : (f g : ℕ → Session) (n : ℕ) → ((j : ℕ) → j < n → f j ≡ g j) → keepalives f n ≡ keepalives g n
unfolding keepalives
keepalives_same f g zero h = refl
keepalives_same f g (suc n) h = λ k. keepalives_same f g n (λ j l. h j (omega arith)) k ++ cond (is_keepalive_due (h n (omega arith) k)) (Carries n keepalive_bytes ∷ []) []

keepalives_at_same : (h : Happening) (f g : ℕ → Session) (n : ℕ) → ((j : ℕ) → j < n → f j ≡ g j) → keepalives_at h f n ≡ keepalives_at h g n
keepalives_at_same (message i m) f g n same = refl
keepalives_at_same (up i) f g n same = refl
keepalives_at_same (frame.down i) f g n same = refl
keepalives_at_same tick f g n same = keepalives_same f g n same
keepalives_at_same (policy_text t) f g n same = refl

or_nothing : (a b : Bool) → b ≡ false → (a || b) ≡ a
or_nothing true b h = refl
or_nothing false b h = h

module _ {O : Type 0} (W : O → List ℕ → O → Type 0) (h : Happening) where
  -- frames that were put out since nobody was reached
  reached_by : (begun t : Outbox O) (output : O) (own address : ℕ) → Begun output own address (box_of begun) → (fs : List Frame) → Chain (Puts W) (box_of begun) fs (box_of t) → (j : ℕ) → j < most_peers → is_member t.reached j ≡ reaches_any j fs
  reached_by begun t output own address b fs c j l = (put_out W (box_of begun) (box_of t) fs c).reached j l ∙ or_nothing (reaches_any j fs) (is_member begun.reached j) (b.unreached j)

  module _ (s t u : State O) (begun : Outbox O) (b : Begun s.outbox.output s.outbox.own_asn s.outbox.address (box_of begun)) (hs : List Happening) (stands : Stands s hs) where
    abbrev x : Exchange
    x = s.exchange

    abbrev w : World
    w = world_after x hs

    abbrev taken : Step
    taken = step_of x h w

    abbrev updates : List Update
    updates = sent_all (size_in x) (rules_at_start x) taken.row w.events

    abbrev frames : List Frame
    frames = step_frames x taken w.events

    agrees : Agrees x w
    agrees = agree x stands.few hs

    level : Level (with_outbox begun s)
    level = record {
      peers = stands.peers;
      few = subst (λ n. n ≤ most_peers) (sym stands.peers) stands.few;
      up = λ i l. let below = subst (λ n. i < n) stands.peers l in stands.model.alike.up i below ∙ agrees.up i below ∙ sym (ap is_established (stands.sessions i));
      outside = λ i l. stands.sessions i ∙ agrees.outside i (subst (λ n. n ≤ i) stands.peers l);
    }

    addressed : Addressed (with_outbox begun s)
    addressed = record { own = b.own_is ∙ stands.addressed.own; address = b.address_is ∙ stands.addressed.address }

    module _ (takes : Takes W taken (with_outbox begun s) t) (finishes : Finishes W h t u) where
      first : Chain (Puts W) (box_of begun) taken.first (box_of takes.middle)
      first = takes.first addressed

      middle_address : takes.middle.address ≡ x.address
      middle_address = (put_out W (box_of begun) (box_of takes.middle) taken.first first).address ∙ addressed.address

      keeps : KeepsAll (size_in x) (rules_at_start x) taken.row w.events t.now (SendsBy W) takes.middle t.outbox
      keeps = (subst (λ n. PromisedAll (size_of n) taken.row s.now t.now (SendsBy W) takes.middle t.outbox) stands.peers (takes.row level)).keeps (rules_at_start x) w.events stands.model

      told_all : Told W (box_of takes.middle) updates (box_of t.outbox)
      told_all = told W takes.middle t.outbox updates keeps.sends

      -- the frames of the step went out
      stepped : Chain (Puts W) (box_of begun) frames (box_of t.outbox)
      unfolding step_frames
      stepped = join (Puts W) (box_of begun) (box_of takes.middle) (box_of t.outbox) taken.first (update_frames x.address updates) first (subst (λ a. Chain (Puts W) (box_of takes.middle) (update_frames a updates) (box_of t.outbox)) middle_address told_all.frames)

      -- the keepalives are those of the world
      due_same : keepalives_at h (sent_to (is_member t.outbox.reached) t.sessions) (count_of t.exchange) ≡ keepalives_at h (noted frames taken.sessions) (count_of x)
      due_same =
          ap (λ y. keepalives_at h (sent_to (is_member t.outbox.reached) t.sessions) (count_of y)) takes.exchange
          ∙ keepalives_at_same h (sent_to (is_member t.outbox.reached) t.sessions) (noted frames taken.sessions) (count_of x)
          (λ j l. sent_noted (is_member t.outbox.reached) frames t.sessions taken.sessions j (reached_by begun t.outbox s.outbox.output s.outbox.own_asn s.outbox.address b frames stepped j (omega (arith, stands.few))) (takes.sessions j))

      -- all frames of the event went out
      served_frames : Chain (Puts W) (box_of begun) (frames_of x h w) (box_of u.outbox)
      unfolding frames_of
      served_frames = join (Puts W) (box_of begun) (box_of t.outbox) (box_of u.outbox) frames (keepalives_at h (noted frames taken.sessions) (count_of x)) stepped (subst (λ fs. Chain (Puts W) (box_of t.outbox) fs (box_of u.outbox)) due_same finishes.kept_alive)

      all_out : PutOut W (box_of begun) (frames_of x h w) (box_of u.outbox)
      all_out = put_out W (box_of begun) (box_of u.outbox) (frames_of x h w) served_frames

      outside_down : (i : ℕ) → count_of x ≤ i → taken.sessions i ≡ down
      outside_down i l = (step_agrees x stands.few w agrees h).outside i l

      served_sessions : (i : ℕ) → u.sessions i ≡ (world_after x (h ∷ hs)).sessions i
      unfolding world_after world_of
      served_sessions i =
          finishes.sessions i
          ∙ ⊎_elim
          (λ l. sent_noted (is_member u.outbox.reached) (frames_of x h w) t.sessions taken.sessions i (reached_by begun u.outbox s.outbox.output s.outbox.own_asn s.outbox.address b (frames_of x h w) served_frames i l) (takes.sessions i))
          (λ l.
          let gone = outside_down i (omega (arith, stands.few)) in
          sent_down (is_member u.outbox.reached) t.sessions i (takes.sessions i ∙ gone) ∙ sym (noted_down (frames_of x h w) taken.sessions i gone))
          (cases_lt i most_peers)

      served_model : model_stands.Stands (size_in x) (rules_at_start x) u.now (world_after x (h ∷ hs)).events
      unfolding world_after world_of
      served_model = subst (λ n. model_stands.Stands (size_in x) (rules_at_start x) n (then_all taken.row w.events)) (sym finishes.now) keeps.stands

      same_exchange : u.exchange ≡ x
      same_exchange = finishes.exchange ∙ takes.exchange

      served_stands : Stands u (h ∷ hs)
      served_stands = record {
        sessions = λ i. served_sessions i ∙ ap (λ y. (world_after y (h ∷ hs)).sessions i) (sym same_exchange);
        model = subst (λ y. model_stands.Stands (size_in y) (rules_at_start y) u.now (world_after y (h ∷ hs)).events) (sym same_exchange) served_model;
        peers = finishes.peers ∙ takes.peers ∙ stands.peers ∙ ap (λ y. count_of y) (sym same_exchange);
        few = subst (λ y. count_of y ≤ most_peers) (sym same_exchange) stands.few;
        addressed = record {
          own = all_out.own ∙ addressed.own ∙ ap (λ y. y.asn) (sym same_exchange);
          address = all_out.address ∙ addressed.address ∙ ap (λ y. y.address) (sym same_exchange);
        };
      }

      served : Served W h hs s u
      served = record {
        exchange = same_exchange;
        stands = served_stands;
        written = subst (λ o. Chain (λ a f e. W a (frame_bytes f) e) o (frames_of x h w) u.outbox.output) b.output_is all_out.written;
        tellable = told_all.tellable;
      }

  pub lifts : Lifts W h
  lifts = record {
    lift = λ s t u begun b takes finishes. record {
      serves = λ hs stands.
          let x = s.exchange in
          let w = world_after x hs in
          let same = step_same x stands.few w (agree x stands.few hs) s.now stands.model h s.sessions stands.sessions in
          served s t u begun b hs stands (subst (λ e. Takes W e (with_outbox begun s) t) same takes) finishes;
    };
  }
