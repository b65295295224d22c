-- Words that can be seen. Assumes nothing.
use Rattle.std.proofs.Common.{◌≡◌, ℕ, true, List, [], ◌∷◌, refl, arith}
use Rattle.policy_words.specs.Words.{is_ascii}
use Rattle.std.proofs.lemmas.Bool.Decides.{nat_tests}
use Rattle.configuration.specs.Messages.{are_visible}

-- a word whose bytes can be seen is ASCII
pub visible_ascii : (bs : List ℕ) → are_visible bs ≡ true → is_ascii bs ≡ true
visible_ascii [] e = refl
visible_ascii (b ∷ bs) e = let again = visible_ascii bs in grind (arith, nat_tests)
