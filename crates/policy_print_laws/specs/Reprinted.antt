-- What comes of a text that is read and printed anew. Assumes nothing.
use Rattle.std.specs.Prelude.{◌≡◌, ℕ, ◌≤◌, List, length}
use Rattle.policy_print.specs.Printed.{printed}
use Rattle.policy_tables.specs.Texts.{Content, Outcome, Read, Refused, meaning}
use Rattle.policy_print_laws.specs.declared.Unprinted.{Unprinted}
use Rattle.policy_print_laws.specs.declared.Unprinted.TheVariants as why

-- the text means these policies, the bytes are these policies printed, and mean the same, if they are not too long
pub record Reprinted (peers : ℕ) (text bytes : List ℕ) (c : Content) : Type 0 where
  pub read : meaning peers text ≡ Read c
  pub printed_anew : bytes ≡ printed c
  pub same : length bytes ≤ 65536 → meaning peers bytes ≡ meaning peers text

-- the text is refused there, or it is read and memory is wanting
abbrev pub Unchanged : Outcome → Content → Unprinted → Type 0
Unchanged o c (why.Refused r) = o ≡ Refused r.at r.awaited
Unchanged o c why.NoMemory = o ≡ Read c
