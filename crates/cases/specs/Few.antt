-- What is sent where there is room for everything, and all announcements are of a few prefixes. Assumes nothing.
use Rattle.std.specs.Prelude.{◌≡◌, ℕ, zero, suc, ◌+◌, ◌-◌, ◌*◌, ◌/◌, ◌^◌, ◌≤◌, Bool, true, cond, ◌&&◌, List, [], ◌∷◌, ◌++◌, Some, None, Option, count_ones, nat_lt}
use Rattle.std.specs.Int.Count.{ones_in}
use Rattle.model.specs.Model.{Size, Event, Announces, Withdraws, Establishes, GoDown, PutInForce, Now, at, all_down, start, intended_in, sent}
use Rattle.model.specs.Stands.{held_before}
use Rattle.model.specs.Updates.{Update, Held, tell_if}
use Rattle.prefix.specs.Prefix.{Prefix}
use Rattle.rib.specs.Received.{updated, cleared}
use Rattle.route.specs.Numbers.{is_in}
use Rattle.route.specs.Route.{Route}
use Rattle.selection.specs.Intended.{Rules}

-- the number of a prefix, with the bits that are 1 counted among 24 where that is enough
abbrev pub place : Prefix → ℕ
place p = 2 * (p.address / 256) + p.length - cond (nat_lt (p.address / 256) (2 ^ 24)) (ones_in 24 (p.address / 256)) (count_ones (p.address / 256))

-- what a peer says counts if its session is up; nobody asks whether there is room for it
abbrev pub says_freely : Size → ℕ → ℕ → Option Route → Now → Now
says_freely z i p x s = cond (nat_lt i z.peers && (nat_lt p z.prefixes && s.up i)) (record { rules = s.rules; up = s.up; received = updated i p x s.received }) s

abbrev pub step_freely : Size → Event → Now → Now
step_freely z (Announces i r) s = says_freely z i (place r.prefix) (Some r) s
step_freely z (Withdraws i p) s = says_freely z i p None s
step_freely z (Establishes i) s = record { rules = s.rules; up = at i true s.up; received = cleared i s.received }
step_freely z (GoDown is) s = all_down is s
step_freely z (PutInForce imports exports) s = record { rules = record { own = s.rules.own; imports = imports; exports = exports }; up = s.up; received = s.received }

-- what counts after events, the latest first, where there is room for everything
unfoldable pub freely : Size → Rules → List Event → Now
freely z rules [] = start rules
freely z rules (e ∷ es) = step_freely z e (freely z rules es)

-- how many of the events are announcements
unfoldable pub announcements : List Event → ℕ
announcements [] = 0
announcements (Announces i r ∷ es) = suc (announcements es)
announcements (Withdraws i p ∷ es) = announcements es
announcements (Establishes i ∷ es) = announcements es
announcements (GoDown is ∷ es) = announcements es
announcements (PutInForce imports exports ∷ es) = announcements es

-- each prefix that is announced is one of these
unfoldable pub all_of : List ℕ → List Event → Bool
all_of ps [] = true
all_of ps (Announces i r ∷ es) = is_in (place r.prefix) ps && all_of ps es
all_of ps (Withdraws i p ∷ es) = all_of ps es
all_of ps (Establishes i ∷ es) = all_of ps es
all_of ps (GoDown is ∷ es) = all_of ps es
all_of ps (PutInForce imports exports ∷ es) = all_of ps es

-- each is below m and below all in front of it
unfoldable pub falling : ℕ → List ℕ → Bool
falling m [] = true
falling m (p ∷ ps) = nat_lt p m && falling p ps

-- what one peer is sent of these prefixes, the highest first: in rising order
unfoldable pub row_of : ℕ → (ℕ → Option Route) → (ℕ → Option Route) → List ℕ → List Update
row_of j old new [] = []
row_of j old new (p ∷ ps) = row_of j old new ps ++ tell_if j p (old p) (new p)

-- what the peers below n whose sessions are up are sent of these prefixes
unfoldable pub updates_of : List ℕ → (ℕ → Bool) → Held → Held → ℕ → List Update
updates_of ps up old new zero = []
updates_of ps up old new (suc n) = updates_of ps up old new n ++ cond (up n) (row_of n (old n) (new n) ps) []

-- what an event brings, worked out from these prefixes alone
abbrev pub sent_of : List ℕ → Size → Rules → Event → List Event → List Update
sent_of ps z rules e es = updates_of ps (freely z rules (e ∷ es)).up (held_before z e (freely z rules es)) (intended_in z (freely z rules (e ∷ es))) z.peers

-- Where there is room for all announcements, and all are of these prefixes, an event sends what is worked out from these alone.
abbrev pub OfFew : Type 0
OfFew = (ps : List ℕ) (z : Size) (rules : Rules) (e : Event) (es : List Event) → announcements (e ∷ es) ≤ z.capacity → falling z.prefixes ps ≡ true → all_of ps (e ∷ es) ≡ true → sent z rules e es ≡ sent_of ps z rules e es
