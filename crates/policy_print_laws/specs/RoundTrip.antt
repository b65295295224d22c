-- What is printed is read back. Assumes nothing.
use Rattle.std.specs.Prelude.{◌≡◌, ℕ, ◌≤◌, List, length}
use Rattle.policy_print.specs.Printed.{printed}
use Rattle.policy_tables.specs.Texts.{Content, Read, meaning}
use Rattle.policy_print_laws.specs.Limits.{Fits}

pub record RoundTrip : Type 0 where
  -- policies within the limits whose text has at most 65,536 bytes are what this text means: the same policies come back, with lists by number. They have no names of lists, so none is lost
  pub back : (peers : ℕ) (c : Content) → Fits peers c → length (printed c) ≤ 65536 → meaning peers (printed c) ≡ Read c
  -- every text that is read has policies within the limits
  pub fitting : (peers : ℕ) (text : List ℕ) (c : Content) → meaning peers text ≡ Read c → Fits peers c
  -- so every text that is read, printed anew, means the same, if that is not too long
  pub again : (peers : ℕ) (text : List ℕ) (c : Content) → meaning peers text ≡ Read c → length (printed c) ≤ 65536 → meaning peers (printed c) ≡ Read c
