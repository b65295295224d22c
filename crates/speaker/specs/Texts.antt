-- What is answered to a policy text. Assumes nothing.
use Rattle.std.specs.Prelude.{◌≡◌, ℕ, List, None, Option, MatchOption}
use Rattle.configuration.specs.declared.TextRefusal.{TextRefusal}
use Rattle.frame.specs.Frame.{Happening, message, up, tick, policy_text}
use Rattle.frame.specs.Frame as frame
use Rattle.policy_tables.specs.Texts.{Content, Outcome, Read, Refused, meaning}
use Rattle.text_tokens.specs.Places.{place_of}

-- nothing to one that is read; else the place at which reading it stops, and what is awaited there
abbrev pub Answers : Outcome → List ℕ → Option TextRefusal → Type 0
Answers o text r = MatchOption r ((c : Content) × (o ≡ Read c)) (λ e. (o ≡ Refused e.at e.awaited) × (e.place ≡ place_of text e.at))

-- to all else nothing
abbrev pub AnswersTo : ℕ → Happening → Option TextRefusal → Type 0
AnswersTo n (message i m) r = r ≡ None
AnswersTo n (up i) r = r ≡ None
AnswersTo n (frame.down i) r = r ≡ None
AnswersTo n tick r = r ≡ None
AnswersTo n (policy_text t) r = Answers (meaning n t) t r
