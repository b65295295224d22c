-- What is true of every policy text. Assumes nothing.
use Rattle.std.specs.Prelude.{◌≡◌, ℕ, ◌<◌, ◌≤◌, List, [], length, Some, None, slice_index_or}
use Rattle.policy.specs.Policy.{evaluate}
use Rattle.policy_clauses.specs.Reading.{Got, Stop, index_of, next}
use Rattle.policy_clauses.specs.declared.Awaited.TheVariants as awaited
use Rattle.policy_items.specs.Items.{list_head, prefix_list}
use Rattle.prefix.specs.Prefix.{Prefix}
use Rattle.route.specs.Route.{Route}
use Rattle.text_tokens.specs.Spacing.{Same}
use Rattle.text_tokens.specs.Tokens.{Source, tokens}
use Rattle.policy_tables.specs.declared.Direction.{Direction}
use Rattle.policy_tables.specs.Texts.{Content, Draft, Outcome, Read, Refused, empty, items, list_text, meaning, nothing, outcome, place_of, policy_for, with_list}

-- what came of a text, without the place of a refusal
abbrev pub placeless : Outcome → Outcome
placeless (Read c) = Read c
placeless (Refused at a) = Refused 0 a

pub record TextLaws : Type 0 where
  -- two texts with the same tokens, whatever stands between these, have the same policies, or are refused for the same
  pub spacing : (peers : ℕ) (a b : List ℕ) → length a ≤ 65536 → length b ≤ 65536 → Same a b → placeless (meaning peers a) ≡ placeless (meaning peers b)
  -- behind fewer than 64 lists a list is read, behind 64 none is
  pub lists_within : (at : ℕ) (d : Draft) (s : Source) → length d.lists < 64 → list_text at d s ≡ next (list_head d.names s) (λ name rest. next (prefix_list rest) (λ list rest₂. Got (with_list name list d) rest₂))
  pub lists_beyond : (at : ℕ) (d : Draft) (s : Source) → 64 ≤ length d.lists → list_text at d s ≡ Stop at awaited.Policy
  -- a text of up to 65,536 bytes is read, a longer one is not
  pub bytes_within : (peers : ℕ) (text : List ℕ) → length text ≤ 65536 → meaning peers text ≡ outcome (items 192 peers empty (tokens text))
  pub bytes_beyond : (peers : ℕ) (text : List ℕ) → 65536 < length text → meaning peers text ≡ Refused 65536 awaited.End
  -- a name stands for the list that was written with it, and goes on to, whatever lists come behind
  pub named : (name : List ℕ) (list : List Prefix) (d : Draft) → length d.names ≡ length d.lists → index_of name d.names ≡ None → (index_of name (with_list name list d).names ≡ Some (length d.lists)) × (slice_index_or (with_list name list d).lists (length d.lists) [] ≡ list)
  pub stays_named : (name other : List ℕ) (list : List Prefix) (d : Draft) (i : ℕ) → index_of name d.names ≡ Some i → index_of name (with_list other list d).names ≡ Some i
  pub stays_listed : (other : List ℕ) (list : List Prefix) (d : Draft) (i : ℕ) → i < length d.lists → slice_index_or (with_list other list d).lists i [] ≡ slice_index_or d.lists i []
  -- a policy that the text does not name rejects every route, and so do all before the first text
  pub unnamed : (c : Content) (direction : Direction) (peer : ℕ) (r : Route) → slice_index_or c.policies (place_of direction peer) None ≡ None → evaluate (policy_for c direction peer) r ≡ None
  pub before_texts : (direction : Direction) (peer : ℕ) (r : Route) → evaluate (policy_for nothing direction peer) r ≡ None
