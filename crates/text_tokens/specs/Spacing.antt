-- What stands between tokens changes nothing but their places. Assumes nothing.
use Rattle.std.specs.Prelude.{◌≡◌, ℕ, Bool, true, false, cond, List, [], ◌∷◌, ◌++◌, ◌==◌}
use Rattle.text_tokens.specs.declared.Class.TheVariants as a_class
use Rattle.text_tokens.specs.declared.Sign as a_sign
use Rattle.text_tokens.specs.Tokens.{Source, Ended, More, class_of, tokens}

-- the tokens without their places
unfoldable pub unplaced : Source → Source
unplaced (Ended at) = Ended 0
unplaced (More t rest) = More (record { at = 0; fresh = t.fresh; kind = t.kind }) (unplaced rest)

-- both texts have the same tokens, the same of them being the first on their lines
abbrev pub Same : List ℕ → List ℕ → Type 0
Same a b = unplaced (tokens a) ≡ unplaced (tokens b)

-- the bytes go on with a comment: no line ends
unfoldable pub is_one_line : List ℕ → Bool
is_one_line [] = true
is_one_line (x ∷ xs) = cond (x == 10) false (is_one_line xs)

abbrev pub IsBlank : ℕ → Type 0
IsBlank x = class_of x ≡ a_class.Blank

pub record SpacingLaws : Type 0 where
  -- what stands behind `#` on a line
  pub comment : (a c b : List ℕ) → is_one_line c ≡ true → Same (a ++ (35 ∷ (c ++ (10 ∷ b)))) (a ++ (10 ∷ b))
  -- a blank line
  pub blank_line : (a b : List ℕ) → Same (a ++ (10 ∷ (10 ∷ b))) (a ++ (10 ∷ b))
  -- several blanks, tabs or carriage returns are as one
  pub blanks : (a b : List ℕ) (x y z : ℕ) → IsBlank x → IsBlank y → IsBlank z → Same (a ++ (x ∷ (y ∷ b))) (a ++ (z ∷ b))
  -- and at the start and the end of a line, and beside a sign, as none
  pub line_start : (a b : List ℕ) (x : ℕ) → IsBlank x → Same (a ++ (10 ∷ (x ∷ b))) (a ++ (10 ∷ b))
  pub line_end : (a b : List ℕ) (x : ℕ) → IsBlank x → Same (a ++ (x ∷ (10 ∷ b))) (a ++ (10 ∷ b))
  pub before_sign : (a b : List ℕ) (x y : ℕ) (s : a_sign.Sign) → IsBlank x → class_of y ≡ a_class.Sign s → Same (a ++ (x ∷ (y ∷ b))) (a ++ (y ∷ b))
  pub behind_sign : (a b : List ℕ) (x y : ℕ) (s : a_sign.Sign) → IsBlank x → class_of y ≡ a_class.Sign s → Same (a ++ (y ∷ (x ∷ b))) (a ++ (y ∷ b))
