-- Words are ASCII. Assumes nothing.
use Rattle.std.proofs.Common.{◌≡◌, ℕ, zero, suc, true, List, [], ◌∷◌, IsAscii, arith}
use Rattle.std.proofs.lemmas.Str.{IsUtf8-from_ascii}
use Rattle.std.proofs.lemmas.Bool.Decides.{nat_tests}
use Rattle.std.specs.Str.{IsUtf8}
use Rattle.policy_words.specs.Words.{is_ascii}

low : (bs : List ℕ) → is_ascii bs ≡ true → IsAscii bs
low [] h i = omega arith
low (b ∷ bs) h zero = grind (arith, nat_tests)
low (b ∷ bs) h (suc i) = low bs (grind (arith, nat_tests)) i

pub text : (bs : List ℕ) → is_ascii bs ≡ true → IsUtf8 bs
text bs h = IsUtf8-from_ascii bs (low bs h)
