-- Taking frames out of an input, one turn at a time. Assumes nothing.
use Rattle.std.specs.Prelude.{ℕ, ◌-◌, cond, ◌||◌, List, [], length, is_some, Some, None, Option, nat_lt}
use Rattle.std.specs.Option.{option_map, unwrap_or}
use Rattle.frame.specs.Frame.{Happening, happening, Outcome, whole, refused, more, unreadable, first, next}
use Rattle.frame.specs.Settings.{Exchange, exchange}
use Rattle.frame.specs.declared.event.Refusal.{Refusal}
use Rattle.frame.specs.declared.event.Defect.{Defect}
use Rattle.frame.specs.declared.event.Defect.TheVariants.{Cut}
use Rattle.intake.specs.declared.turns.Passing.{Passing}
use Rattle.intake.specs.declared.turns.Intake.{Intake}
use Rattle.intake.specs.declared.turns.Step.{Step}
use Rattle.intake.specs.declared.turns.Step.TheVariants as step
use Rattle.intake.specs.declared.turns.Turn.{Turn}

-- what an input leads to, one thing after the other
pub data Entry : Type 0 where
  -- settings are in force
  in_force : Exchange → Entry
  event : Happening → Entry
  -- a frame was passed over
  passed_over : Refusal → Entry
  -- a frame cannot be read: nothing more is read
  ended : Defect → Entry

-- what bytes begin with, before settings or under settings
abbrev pub map_outcome : {X Y : Type 0} → (X → Y) → Outcome X → Outcome Y
map_outcome f (whole x n) = whole (f x) n
map_outcome f (refused r n) = refused r n
map_outcome f more = more
map_outcome f (unreadable d) = unreadable d

abbrev pub reads : Option Exchange → List ℕ → Outcome Entry
reads None xs = map_outcome in_force (first xs)
reads (Some x) xs = map_outcome event (next x xs)

-- the settings in force after an entry
abbrev pub force_after : Option Exchange → Entry → Option Exchange
force_after s (in_force x) = Some x
force_after s (event h) = s
force_after s (passed_over r) = s
force_after s (ended d) = s

-- the settings in force after what bytes begin with
abbrev pub settled : Option Exchange → Outcome Entry → Option Exchange
settled s (whole e n) = force_after s e
settled s (refused r n) = s
settled s more = s
settled s (unreadable d) = s

-- how far an input is read: the settings in force, and the frame that is being passed over
pub record State : Type 0 where
  pub settings : Option Exchange
  pub passing : Option Passing

-- nothing is read
abbrev pub start : State
start = record { settings = None; passing = None }

-- one turn: what comes out, if anything, how many of the bytes at hand are done with, and how far the input is read then
pub record Taken : Type 0 where
  pub entry : Option Entry
  pub taken : ℕ
  pub after : State

-- a frame of which `left` bytes are still to come is passed over: it comes out when its last byte is there
abbrev pub pass_over : Option Exchange → Refusal → ℕ → List ℕ → Taken
pass_over s r left xs =
    cond (nat_lt (length xs) left)
    record { entry = None; taken = length xs; after = record { settings = s; passing = Some record { refusal = r; left = left - length xs } } }
    record { entry = Some (passed_over r); taken = left; after = record { settings = s; passing = None } }

abbrev pub by_outcome : Option Exchange → List ℕ → Outcome Entry → Taken
by_outcome s xs (whole e n) = record { entry = Some e; taken = n; after = record { settings = force_after s e; passing = None } }
by_outcome s xs (refused r n) = pass_over s r n xs
by_outcome s xs more = record { entry = None; taken = 0; after = record { settings = s; passing = None } }
by_outcome s xs (unreadable d) = record { entry = Some (ended d); taken = 0; after = record { settings = s; passing = None } }

abbrev pub by_passing : Option Exchange → List ℕ → Option Passing → Taken
by_passing s xs None = by_outcome s xs (reads s xs)
by_passing s xs (Some p) = pass_over s p.refusal p.left xs

abbrev pub turn : State → List ℕ → Taken
turn st xs = by_passing st.settings xs st.passing

-- what the code's values say
abbrev pub settings_of : Intake → Option Exchange
settings_of i = option_map exchange i.settings

abbrev pub state_of : Intake → State
state_of i = record { settings = settings_of i; passing = i.passing }

abbrev pub entry_of : Intake → Step → Option Entry
entry_of i step.Settings = Some (in_force (unwrap_or (settings_of i) record { asn = 0; address = 0; peers = [] }))
entry_of i (step.Event e) = Some (event (happening e))
entry_of i (step.Refused r) = Some (passed_over r)
entry_of i step.More = None
entry_of i (step.Unreadable d) = Some (ended d)

abbrev pub turn_of : Intake → Turn → Taken
turn_of i t = record { entry = entry_of i t.step; taken = t.taken; after = state_of i }

-- an input that ends inside a frame: where nothing comes out any more, bytes are at hand or a frame is being passed over
abbrev pub at_end : State → List ℕ → Option Defect
at_end st xs = cond (is_some st.passing || nat_lt 0 (length xs)) (Some Cut) None
