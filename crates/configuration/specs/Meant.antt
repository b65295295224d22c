-- What the code's configuration stands for. Assumes nothing.
use Rattle.std.specs.Prelude.{◌≡◌, ℕ, List, Result, MatchResult}
use Rattle.policy_tables.specs.Meant.{content_of}
use Rattle.policy_tables.specs.Texts.{Content, Outcome, Read, Refused}
use Rattle.text_tokens.specs.Places.{place_of}
use Rattle.configuration.specs.declared.Configuration.{Configuration}
use Rattle.configuration.specs.declared.TextRefusal.{TextRefusal}

-- the lists and policies in force
abbrev pub in_force : Configuration → Content
in_force c = content_of c.active

-- what is in force is what the text means; or the text is refused at the place at which reading it stops
abbrev pub TakesPlace : {V : Type 0} → Outcome → List ℕ → Content → Result V TextRefusal → Type 0
TakesPlace o text content r = MatchResult r (λ _. o ≡ Read content) (λ e. (o ≡ Refused e.at e.awaited) × (e.place ≡ place_of text e.at))

-- the policies in force behind a text: its own, or those before it if it is refused
abbrev pub behind_text : Outcome → Content → Content
behind_text (Read c) before = c
behind_text (Refused at a) before = before
