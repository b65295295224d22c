-- The limits of conditions, lists and rows of clauses are exact. Assumes nothing.
use Rattle.std.specs.Prelude.{◌≡◌, ℕ, ◌<◌, ◌≤◌, true, List, [], length}
use Rattle.policy.specs.declared.Part.{Part}
use Rattle.policy_clauses.specs.Reading.{Reading, Got, Stop, Written, condition, parts}
use Rattle.policy_clauses.specs.declared.Awaited.{Awaited}
use Rattle.policy_clauses.specs.declared.Awaited.TheVariants as awaited
use Rattle.prefix.specs.Prefix.{Prefix}
use Rattle.text_tokens.specs.Tokens.{Source}
use Rattle.policy_items.specs.Items.{clauses, prefix_list, prefixes}

-- xs is read if it is no longer than the limit, and else reading stops with what is awaited there
pub record Exact {A : Type 0} (limit : ℕ) (a : Awaited) (r : Reading (List A)) (xs : List A) (rest : Source) : Type 0 where
  pub within : length xs ≤ limit → r ≡ Got xs rest
  pub beyond : limit < length xs → (at : ℕ) × (r ≡ Stop at a)

pub record LimitLaws : Type 0 where
  -- what is a condition, a list or a row of clauses, were any number n allowed, is one if it has at most 16 parts, 64 prefixes or 256 clauses
  pub parts_exact : (n : ℕ) (names : List (List ℕ)) (s : Source) (ps : List Part) (rest : Source) → parts n names [] s ≡ Got ps rest → Exact 16 awaited.Then (condition names s) ps rest
  pub prefixes_exact : (n : ℕ) (s : Source) (ps : List Prefix) (rest : Source) → prefixes n [] s ≡ Got ps rest → Exact 64 awaited.ListEnd (prefix_list s) ps rest
  pub clauses_exact : (n : ℕ) (names : List (List ℕ)) (s : Source) (cs : List Written) (rest : Source) → clauses n names true [] s ≡ Got cs rest → Exact 256 awaited.Close (clauses 256 names true [] s) cs rest
