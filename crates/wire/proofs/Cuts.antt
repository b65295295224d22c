-- A row is its first piece and the row behind it. Assumes nothing.
use Rattle.std.proofs.Common.{◌≡◌, ℕ, zero, suc, ◌-◌, ◌<◌, ◌≤◌, true, false, List, [], ◌∷◌, length, take, drop, sym, refl, ap, ◌∙◌, arith}
use Rattle.wire.specs.Pieces.{pieces_past, overruns_past, pieces, overruns}
use Rattle.wire.specs.Steps.{PieceSteps}

module _ (size : List ℕ → ℕ) where
  pieces_past_lem : (k : ℕ) (bs : List ℕ) → pieces_past size k bs ≡ pieces size (drop k bs)
  unfolding pieces_past
  pieces_past_lem zero [] = refl
  pieces_past_lem zero (b ∷ bs) = refl
  pieces_past_lem (suc k) [] = refl
  pieces_past_lem (suc k) (b ∷ bs) = pieces_past_lem k bs

  overruns_past_lem : (k : ℕ) (bs : List ℕ) → k ≤ length bs → overruns_past size k bs ≡ overruns size (drop k bs)
  unfolding overruns_past
  overruns_past_lem zero bs h = refl
  overruns_past_lem (suc k) [] h = absurd (omega arith)
  overruns_past_lem (suc k) (b ∷ bs) h = overruns_past_lem k bs (omega arith)

  overruns_short : (k : ℕ) (bs : List ℕ) → length bs < k → overruns_past size k bs ≡ true
  unfolding overruns_past
  overruns_short zero bs h = absurd (omega arith)
  overruns_short (suc k) [] h = refl
  overruns_short (suc k) (b ∷ bs) h = overruns_short k bs (omega arith)

  module _ (some : (b : ℕ) (bs : List ℕ) → 0 < size (b ∷ bs)) where
    -- a size that is not 0 is one more than its predecessor
    one_more : (b : ℕ) (bs : List ℕ) → size (b ∷ bs) ≡ suc (size (b ∷ bs) - 1)
    one_more b bs = let h = some b bs in omega arith

    first : (bs : List ℕ) → 0 < length bs → pieces size bs ≡ take (size bs) bs ∷ pieces size (drop (size bs) bs)
    unfolding pieces_past
    first [] h = absurd (omega arith)
    first (b ∷ bs) h = ap (λ r. take (size (b ∷ bs)) (b ∷ bs) ∷ r) (pieces_past_lem (size (b ∷ bs) - 1) bs ∙ ap (λ n. pieces size (drop n (b ∷ bs))) (sym (one_more b bs)))

    over : (bs : List ℕ) → 0 < length bs → length bs < size bs → overruns size bs ≡ true
    unfolding overruns_past
    over [] h l = absurd (omega arith)
    over (b ∷ bs) h l = overruns_short (size (b ∷ bs) - 1) bs (omega arith)

    next : (bs : List ℕ) → 0 < length bs → size bs ≤ length bs → overruns size bs ≡ overruns size (drop (size bs) bs)
    unfolding overruns_past
    next [] h l = absurd (omega arith)
    next (b ∷ bs) h l = overruns_past_lem (size (b ∷ bs) - 1) bs (omega arith) ∙ ap (λ n. overruns size (drop n (b ∷ bs))) (sym (one_more b bs))

    nothing : pieces size [] ≡ []
    unfolding pieces_past
    nothing = refl

    fits : overruns size [] ≡ false
    unfolding overruns_past
    fits = refl

    -- at any size that is never 0
    pub piece_steps : PieceSteps size
    piece_steps = record { none = nothing; fits_none = fits; first = first; over = over; next = next }
