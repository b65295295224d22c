-- What a peer says by an UPDATE, as the code holds it. Assumes nothing.
use Rattle.std.specs.Prelude.{ℕ, Bool, ◌||◌, List, Option}
use Rattle.model.specs.Model.{Event}
use Rattle.rib.specs.Received.{Received}
use Rattle.route.specs.Route.{Route}
use Rattle.update.specs.Meant.{content_meant}
use Rattle.update_events.specs.Words.{is_withdrawn, is_announced, last_word, words_at, words, needs, needed, lacks_room}
use Rattle.update_events.specs.declared.Saying.{Saying}

-- the prefix is named
abbrev pub says_of : Saying → ℕ → Bool
says_of s p = is_withdrawn s.message.now p || is_announced s.message.now p

-- what is said of a prefix that is named
abbrev pub word_of : Saying → ℕ → Option Route
word_of s p = last_word (content_meant s.content.now) (is_announced s.message.now p) p

-- what is said of the prefix, if anything
abbrev pub said_on : Saying → ℕ → List Event
said_on s p = words_at s.peer (content_meant s.content.now) s.message.now p

-- all that is said
abbrev pub all_said : Saying → List Event
all_said s = words s.peer (content_meant s.content.now) s.message.now

-- the prefix needs a place
abbrev pub needs_for : Saying → Received → ℕ → Bool
needs_for s f = needs s.peer (content_meant s.content.now) s.message.now f

-- how many places are needed
abbrev pub needed_by : Saying → Received → ℕ
needed_by s f = needed s.peer (content_meant s.content.now) s.message.now f

-- more are needed than are left
abbrev pub lacks : Saying → Received → Bool
lacks s f = lacks_room s.peer (content_meant s.content.now) s.message.now f
