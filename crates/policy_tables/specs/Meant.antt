-- What the code's policies stand for. Assumes nothing.
use Rattle.std.specs.Prelude.{◌≡◌, ℕ, Bool, List, map, length, Some, None, vec_items, Option, Result, MatchResult}
use Rattle.std.specs.Borrow.{Bor}
use Rattle.policy.specs.Meant.{prefixes_of}
use Rattle.policy.specs.declared.Clause.{Clause}
use Rattle.policy_clauses.specs.Meant.{names_of, written_of}
use Rattle.policy_items.specs.Meant.{stored}
use Rattle.policy_clauses.specs.Reading.{Reading, Stop, Written}
use Rattle.policy_clauses.specs.declared.Awaited.TheVariants as awaited
use Rattle.policy_clauses.specs.declared.Refusal.{Refusal}
use Rattle.text_tokens.specs.Tokens.{Source, Word, Sign}
use Rattle.text_tokens.specs.declared.Kind as stored_kind
use Rattle.text_tokens.specs.declared.Kind.TheVariants as a_kind
use Rattle.text_tokens.specs.declared.Token.{Token as StoredToken}
use Rattle.policy_tables.specs.declared.Policies.{Policies}
use Rattle.policy_tables.specs.declared.Unread.{Unread}
use Rattle.policy_tables.specs.Slots.{slot_policy}
use Rattle.policy_tables.specs.Texts.{Content, Draft, Outcome, Read, Refused, item}

abbrev pub content_of : Policies → Content
content_of p = record { lists = map prefixes_of (vec_items p.lists); policies = map (slot_policy (stored p.pool)) p.spans }

-- the clauses of a policy that the text names
abbrev pub named_of : Option (Bor (List Clause)) → Option (List Written)
named_of None = None
named_of (Some cs) = Some (map written_of cs.now)

-- what was read so far, with the names of the lists
abbrev pub draft_of : Policies → Unread → Draft
draft_of p u = record { names = names_of u.names; lists = (content_of p).lists; policies = (content_of p).policies; count = length (stored p.pool) }

-- each list has its name
abbrev pub IsLevel : Draft → Type 0
IsLevel d = length d.names ≡ length d.lists

-- a list or a policy, behind the code's token; at the end there is none
abbrev pub item_as : ℕ → Draft → ℕ → Bool → stored_kind.Kind → Source → Reading Draft
item_as peers d at fresh (a_kind.Word w) rest = item peers d (record { at = at; fresh = fresh; kind = Word w.now }) rest
item_as peers d at fresh (a_kind.Sign s) rest = item peers d (record { at = at; fresh = fresh; kind = Sign s }) rest
item_as peers d at fresh a_kind.End rest = Stop at awaited.Item

abbrev pub item_from : ℕ → Draft → StoredToken → Source → Reading Draft
item_from peers d t rest = item_as peers d t.at t.fresh t.kind rest

-- the policies are what was read, or the text is refused there
abbrev pub ReadsAll : {V : Type 0} → Outcome → Content → Result V Refusal → Type 0
ReadsAll o content r = MatchResult r (λ _. o ≡ Read content) (λ e. o ≡ Refused e.at e.awaited)
