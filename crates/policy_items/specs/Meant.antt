-- What the code's values stand for. Assumes nothing.
use Rattle.std.specs.Prelude.{List, None, Option, vec_items}
use Rattle.policy.specs.declared.Clause.{Clause}
use Rattle.text_tokens.specs.Tokens.{Word, Sign}
use Rattle.text_tokens.specs.declared.Kind as stored_kind
use Rattle.text_tokens.specs.declared.Kind.TheVariants as a_kind
use Rattle.policy_items.specs.declared.Pool.{Pool}
use Rattle.policy_items.specs.declared.signs.Start as stored_start
use Rattle.policy_items.specs.Items.{start_of}

-- what the code's token begins; the end of a text begins nothing
abbrev pub start_with : stored_kind.Kind → Option stored_start.Start
start_with (a_kind.Word w) = start_of (Word w.now)
start_with (a_kind.Sign s) = start_of (Sign s)
start_with a_kind.End = None

-- the clauses of a pool
abbrev pub stored : Pool → List Clause
stored p = vec_items p.clauses
