-- The steps of reading numbers. Assumes nothing.
use Rattle.std.proofs.Common.{◌≡◌, ℕ, ◌+◌, ◌-◌, ◌*◌, ◌^◌, cond, ltb, List, [], ◌∷◌, Some, None, refl}
use Rattle.std.specs.Char.{is_ascii_digit}
use Rattle.policy_words.specs.Words.{leading_from}

pub leading_more : (n b : ℕ) (bs : List ℕ) → leading_from n (b ∷ bs) ≡ cond (is_ascii_digit b) (cond (ltb (n * 10 + (b - 48)) (2 ^ 32)) (leading_from (n * 10 + (b - 48)) bs) None) (Some (n, b ∷ bs))
unfolding leading_from
leading_more n b bs = refl

pub leading_none : (n : ℕ) → leading_from n [] ≡ Some (n, [])
unfolding leading_from
leading_none n = refl
