-- What is promised of the bytes that go out. Assumes nothing.
use Rattle.std.specs.Prelude.{◌≡◌, ℕ, ◌^◌, ◌<◌, ◌≤◌, true, List, [], ◌∷◌, ◌++◌, Some, ◌≢◌}
use Rattle.frame.specs.Frame.{Happening}
use Rattle.frame.specs.Settings.{Exchange}
use Rattle.hearing.specs.Hearing.{held_by}
use Rattle.message.specs.Header.{kind_of}
use Rattle.message.specs.declared.Kind.TheVariants.{Update}
use Rattle.model.specs.Model.{intended_in}
use Rattle.model.specs.Rows.{sent_all}
use Rattle.outbox.specs.Frames.{Frame, Carries}
use Rattle.outbox.specs.Laws.{AllTellable}
use Rattle.prefix.specs.Prefix.{count}
use Rattle.rib.specs.Received.{most_peers}
use Rattle.session.specs.Session.{is_established}
use Rattle.speaker_model.specs.World.{count_of, size_in, rules_at_start, now_in, step_of, world_after, frames_after}

-- every update that went out could be told
unfoldable pub AllTold : Exchange → List Happening → Type 0
AllTold x [] = Unit {0}
AllTold x (h ∷ hs) = AllTellable (sent_all (size_in x) (rules_at_start x) (step_of x h (world_after x hs)).row (world_after x hs).events) × AllTold x hs

-- Whatever bytes peers send, whenever connections come up and are lost, however policies change:
pub record BytePromise (x : Exchange) (hs : List Happening) : Type 0 where
  -- each peer whose session is established, and that did as the bytes sent to it say, holds of each prefix exactly what the policies of now and everybody's last announcements mean, worked out from nothing
  pub exact : (j p : ℕ) → j < count_of x → p < count → is_established ((world_after x hs).sessions j) ≡ true → held_by x.address (frames_after x hs) j p ≡ intended_in (size_in x) (now_in x (world_after x hs)) j p
  -- each UPDATE that was sent told its peer something that it did not hold
  pub only_new : (before behind : List Frame) (j : ℕ) (m : List ℕ) → frames_after x hs ≡ before ++ (Carries j m ∷ behind) → kind_of m ≡ Some Update → (p : ℕ) × (held_by x.address (before ++ (Carries j m ∷ [])) j p ≢ held_by x.address before j p)

-- THE PROMISE IN BYTES, over every list of frames that come in, for at most 64 peers and an own network and address of 32 bits
abbrev pub InBytes : Type 0
InBytes = (x : Exchange) → count_of x ≤ most_peers → x.address < 2 ^ 32 → x.asn < 2 ^ 32 → (hs : List Happening) → AllTold x hs → BytePromise x hs
