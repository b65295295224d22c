-- What the code's answers stand for. Assumes nothing.
use Rattle.std.specs.Prelude.{◌≡◌, ℕ, List, map, Result, MatchResult}
use Rattle.rows.specs.Rows.{held}
use Rattle.policy.specs.Meant.{parts_of}
use Rattle.policy.specs.declared.Clause.{Clause}
use Rattle.text_tokens.specs.Tokens.{Source}
use Rattle.policy_clauses.specs.declared.Names.{Names}
use Rattle.policy_clauses.specs.declared.Refusal.{Refusal}
use Rattle.policy_clauses.specs.declared.Spelled.{Spelled}
use Rattle.policy_clauses.specs.Reading.{Reading, Got, Stop, Written}

-- the answer is what the grammar reads, and the tokens left are those behind it; or it is refused where the grammar stops
abbrev pub Reads : {V A : Type 0} → (V → A) → (Source → Reading A) → Source → Source → Result V Refusal → Type 0
Reads meaning grammar before after r = MatchResult r (λ v. grammar before ≡ Got (meaning v) after) (λ e. grammar before ≡ Stop e.at e.awaited)

abbrev pub as_is : {A : Type 0} → A → A
as_is x = x

abbrev pub spelled_of : Spelled → ℕ × List ℕ
spelled_of w = (w.at, w.text.now)

abbrev pub names_of : Names → List (List ℕ)
names_of n = map (λ x. x.now) (held n.words)

-- a clause as it is written
abbrev pub written_of : Clause → Written
written_of c = record { parts = parts_of c.condition; action = c.action }
