-- What is promised of the bytes that go out. Assumes nothing.
use Rattle.std.proofs.Common.{◌≡◌, ℕ, ◌^◌, ◌<◌, ◌≤◌, Bool, true, false, List, [], ◌∷◌, ◌++◌, Some, refl, ap, ◌∙◌, subst}
use Rattle.attributes.specs.AsPath.{Reading, got, fault}
use Rattle.attributes.specs.Meaning.{Peer}
use Rattle.frame.specs.Frame.{Happening}
use Rattle.frame.specs.Settings.{Exchange}
use Rattle.hearing.proofs.Heard.{hearing}
use Rattle.hearing.proofs.Placing.{placed}
use Rattle.hearing.specs.Hearing.{held_by}
use Rattle.hearing.specs.Placed.{Placed, AllPlaced}
use Rattle.message.specs.Header.{kind_of}
use Rattle.message.specs.Message.{Message, Opens, Updates, Notifies, KeepsAlive, as_update, read_as, read_message}
use Rattle.message.specs.declared.Kind.TheVariants as a_kind
use Rattle.message.specs.declared.State.{State}
use Rattle.message.specs.declared.State.TheVariants as at
use Rattle.message_laws.proofs.Updates.{round_trip}
use Rattle.message_write.specs.Written.{keepalive_bytes, notification_bytes, open_bytes}
use Rattle.model.proofs.Ordering.{All}
use Rattle.model.proofs.Promises.{exact}
use Rattle.model.specs.Model.{after}
use Rattle.model.specs.Rows.{sent_all}
use Rattle.model.specs.Updates.{Update, Tells, tells, follows, held_after}
use Rattle.outbox.specs.Frames.{Frame, Carries, update_frame, update_frames}
use Rattle.outbox.specs.Laws.{AllTellable}
use Rattle.outbox.specs.Outbox.{Tellable}
use Rattle.rib.specs.Received.{most_peers}
use Rattle.session.specs.declared.Phase.TheVariants.{Down}
use Rattle.speaker_model.proofs.Agreeing.{agree}
use Rattle.speaker_model.proofs.Holding.{Hears, AllNew, new_append, new_at}
use Rattle.speaker_model.proofs.Promising.{not_open_sent, Heard, goes_on}
use Rattle.speaker_model.specs.Promise.{AllTold, BytePromise}
use Rattle.speaker_model.specs.World.{count_of, size_in, rules_at_start, step_of, frames_of, world_after, frames_after}
use Rattle.std.proofs.lemmas.Bool.{both_ways}
use Rattle.update.specs.Update.{Content, read_update}

-- a reading of an UPDATE gives one, or a fault
abbrev of_update : Reading Message → Bool
of_update (fault k) = true
of_update (got (Opens o)) = false
of_update (got (Updates c)) = true
of_update (got (Notifies code subcode)) = false
of_update (got KeepsAlive) = false

as_update_lem : (r : Reading Content) → of_update (as_update r) ≡ true
as_update_lem (got c) = refl
as_update_lem (fault k) = refl

read_update_lem : (state : State) (peer : Peer) (m : List ℕ) → of_update (read_as state peer m (Some a_kind.Update)) ≡ true
read_update_lem at.OpenSent peer m = refl
read_update_lem at.Established peer m = as_update_lem (read_update peer m)

-- what is read as something else is no UPDATE
no_update : (state : State) (peer : Peer) (m : List ℕ) (message : Message) → read_message state peer m ≡ got message → of_update (got message) ≡ false → kind_of m ≡ Some a_kind.Update → ⊥
no_update state peer m message read other kind = both_ways (of_update (read_message state peer m)) (ap of_update read ∙ other) (ap (λ k. of_update (read_as state peer m k)) kind ∙ read_update_lem state peer m)

-- an update that is heard as it is meant
abbrev Meant : Update → Type 0
Meant u = Tellable u × Placed u

all_meant : (us : List Update) → AllTellable us → AllPlaced us → All Meant us
unfolding All AllTellable AllPlaced
all_meant [] a e = tt
all_meant (u ∷ us) a e = ((a.0, e.0), all_meant us a.1 e.1)

module _ (x : Exchange) (few : count_of x ≤ most_peers) (address-fits : x.address < 2 ^ 32) (asn-fits : x.asn < 2 ^ 32) where
  told : (fs : List Frame) (u : Update) → Meant u → (j p : ℕ) → held_by x.address (fs ++ (update_frame x.address u ∷ [])) j p ≡ follows (Tells u) (held_by x.address fs) j p
  unfolding update_frames tells held_after AllTellable AllPlaced
  told fs u meant j p = hearing.updates x.address fs (u ∷ []) address-fits (meant.0, tt) (meant.1, tt) j p

  hears : Hears x.asn x.address (held_by x.address) Meant
  hears = record {
    told = told;
    opened = λ fs i j p. hearing.opened x.address x.asn fs i j p;
    keepalive = λ fs i j p. hearing.keepalive x.address fs i j p;
    notification = λ fs k i j p. hearing.notification x.address k fs i j p;
    closed = λ fs i j p. hearing.closed x.address fs i j p;
    keepalive_kind = no_update at.Established (record { asn = 0; address = 0 }) keepalive_bytes KeepsAlive (round_trip.keepalive _) refl;
    notification_kind = λ k. no_update at.Established (record { asn = 0; address = 0 }) (notification_bytes k) (Notifies 6 k) (round_trip.notification at.Established _ k) refl;
    open_kind = no_update at.OpenSent (record { asn = x.asn; address = 0 }) (open_bytes x.asn x.address) _ (round_trip.opened x.asn x.address 0 asn-fits address-fits) refl;
  }

  abbrev Fresh : List Frame → Type 0
  Fresh fs = AllNew (size_in x) (rules_at_start x) x.asn x.address (held_by x.address) Meant hears [] fs

  all_heard : (hs : List Happening) → AllTold x hs → Heard x (held_by x.address) Meant hears (world_after x hs) (frames_after x hs) × Fresh (frames_after x hs)
  unfolding world_after frames_after AllTold AllNew after
  all_heard [] told_all = (record { follows = λ j p l h. absurd (both_ways false refl h); awaited = λ j p l h. absurd (not_open_sent Down refl h) }, tt)
  all_heard (h ∷ hs) told_all =
      let w = world_after x hs in
      let before = all_heard hs told_all.1 in
      let meant = all_meant (sent_all (size_in x) (rules_at_start x) (step_of x h w).row w.events) told_all.0 (placed.all_events (size_in x) (rules_at_start x) (step_of x h w).row w.events) in
      let next = goes_on x (held_by x.address) Meant hears w (agree x few hs) (frames_after x hs) before.0 h meant in
      (next.heard_still, new_append (size_in x) (rules_at_start x) x.asn x.address (held_by x.address) Meant hears [] (frames_after x hs) (frames_of x h w) before.1 next.new)

  promise : (hs : List Happening) → AllTold x hs → BytePromise x hs
  promise hs told_all =
      let heard = all_heard hs told_all in
      let w = world_after x hs in
      record {
        exact = λ j p l q is. let is_up = (agree x few hs).up j l ∙ is in heard.0.follows j p l is_up ∙ exact (size_in x) (rules_at_start x) w.events j p l q is_up;
        only_new = λ before behind j m whole. new_at (size_in x) (rules_at_start x) x.asn x.address (held_by x.address) Meant hears [] before behind (Carries j m) (subst Fresh whole heard.1);
      }

pub in_bytes : (x : Exchange) → count_of x ≤ most_peers → x.address < 2 ^ 32 → x.asn < 2 ^ 32 → (hs : List Happening) → AllTold x hs → BytePromise x hs
in_bytes x few address-fits asn-fits hs told_all = promise x few address-fits asn-fits hs told_all
