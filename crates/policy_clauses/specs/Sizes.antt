-- How much of a text is left. Assumes nothing.
use Rattle.std.specs.Prelude.{ℕ, suc}
use Rattle.text_tokens.specs.Tokens.{Source, Ended, More}

-- how many tokens are left
unfoldable pub size : Source → ℕ
size (Ended at) = 0
size (More t rest) = suc (size rest)
