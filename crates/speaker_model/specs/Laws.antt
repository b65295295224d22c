-- What is promised of each frame that comes in. Assumes nothing.
use Rattle.std.specs.Prelude.{◌≡◌, ℕ, ◌<◌, ◌≤◌, Bool, true, false, cond, ◌||◌, List, [], ◌==◌, ◌≢◌}
use Rattle.attributes.specs.AsPath.{got}
use Rattle.frame.specs.Frame.{Happening, message, up, tick, policy_text}
use Rattle.frame.specs.Frame as frame
use Rattle.frame.specs.Settings.{Exchange}
use Rattle.message.specs.Message.{Updates, read_message}
use Rattle.message.specs.declared.State.TheVariants as at
use Rattle.policy_clauses.specs.declared.Awaited.{Awaited}
use Rattle.policy_tables.specs.Texts.{Refused, meaning}
use Rattle.prefix.specs.Prefix.{count}
use Rattle.rib.specs.Received.{most_peers}
use Rattle.session.specs.Session.{is_down, is_established}
use Rattle.speaker_model.specs.Agree.{Agrees}
use Rattle.speaker_model.specs.World.{World, count_of, now_in, member_of, frames_of, world_of}
use Rattle.update.specs.Update.{Content}
use Rattle.update_events.specs.Words.{is_withdrawn, is_announced, last_word, lacks_room}

-- the message is an UPDATE on an established session, and there is room for it
pub record Taken (x : Exchange) (w : World) (i : ℕ) (m : List ℕ) (c : Content) : Type 0 where
  pub known : i < count_of x
  pub established : is_established (w.sessions i) ≡ true
  pub says : read_message at.Established (member_of x i) m ≡ got (Updates c)
  pub room : lacks_room i c m (now_in x w).received ≡ false

-- the session stays established, and what the peer last announced is, of each prefix that the message names, its last word on it, and of every other as before
pub record NoWordLost (x : Exchange) (w : World) (i : ℕ) (m : List ℕ) (c : Content) : Type 0 where
  pub still_up : is_established ((world_of x (message i m) w).sessions i) ≡ true
  pub last : (p : ℕ) → p < count → (now_in x (world_of x (message i m) w)).received i p ≡ cond (is_withdrawn m p || is_announced m p) (last_word c (is_announced m p) p) ((now_in x w).received i p)

-- the frame comes from peer i, or tells of its connection
abbrev pub is_of : ℕ → Happening → Bool
is_of i (message k m) = k == i
is_of i (up k) = k == i
is_of i (frame.down k) = k == i
is_of i tick = false
is_of i (policy_text t) = false

-- what peer j last announced, and how far its session has come up, is as it was
pub record Untouched (x : Exchange) (w : World) (h : Happening) (j : ℕ) : Type 0 where
  pub received : (p : ℕ) → (now_in x (world_of x h w)).received j p ≡ (now_in x w).received j p
  pub up : (now_in x (world_of x h w)).up j ≡ (now_in x w).up j
  pub phase : ((world_of x h w).sessions j).phase ≡ (w.sessions j).phase

-- all is as it was, and nothing goes out
pub record Unmoved (x : Exchange) (w : World) (h : Happening) : Type 0 where
  pub frames : frames_of x h w ≡ []
  pub sessions : (i : ℕ) → (world_of x h w).sessions i ≡ w.sessions i
  pub events : (world_of x h w).events ≡ w.events

pub record WorldLaws (x : Exchange) (w : World) : Type 0 where
  -- an UPDATE that is taken is taken whole
  pub no_word_lost : (i : ℕ) (m : List ℕ) (c : Content) → Taken x w i m c → NoWordLost x w i m c
  -- no frame of one peer, however damaged, touches another
  pub others_untouched : (i j : ℕ) (h : Happening) → is_of i h ≡ true → (j ≢ i) → Untouched x w h j
  -- a text that is refused is as if it had not come
  pub refused_text : (t : List ℕ) (at : ℕ) (awaited : Awaited) → meaning (count_of x) t ≡ Refused at awaited → Unmoved x w (policy_text t)
  -- so are bytes on a session that is down
  pub dropped : (i : ℕ) (m : List ℕ) → is_down (w.sessions i) ≡ true → Unmoved x w (message i m)

-- so it is wherever sessions and events go together, for at most 64 peers
abbrev pub Laws : Type 0
Laws = (x : Exchange) (w : World) → count_of x ≤ most_peers → Agrees x w → WorldLaws x w
