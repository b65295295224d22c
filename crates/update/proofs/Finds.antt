-- Reading attributes one by one. Assumes nothing.
use Rattle.std.proofs.Common.{◌≡◌, ℕ, ◌<◌, ◌≤◌, cond, List, ◌∷◌, length, take, drop, sym, ap, ◌∙◌, arith, length-drop}
use Rattle.attributes.specs.AsPath.{got, fault}
use Rattle.attributes.specs.Layout.{attribute_size}
use Rattle.attributes.specs.Meaning.{Peer}
use Rattle.std.proofs.lemmas.List.{nil_from_length}
use Rattle.std.proofs.lemmas.Bool.{cond-true, cond-false}
use Rattle.std.proofs.lemmas.Bool.Decides.{nat_tests}
use Rattle.update.specs.Finding.{Found, add, add_all, find_all}
use Rattle.wire.proofs.Cuts.{piece_steps}
use Rattle.wire.specs.Pieces.{pieces, overruns}
use Rattle.wire.specs.Steps.{PieceSteps}

some_bytes : (b : ℕ) (bs : List ℕ) → 0 < attribute_size (b ∷ bs)
some_bytes b bs = grind (arith, nat_tests)

pub attribute_pieces : PieceSteps attribute_size
attribute_pieces = piece_steps attribute_size some_bytes

module _ (peer : Peer) (f : Found) (bs : List ℕ) where
  pub end : length bs ≡ 0 → find_all peer f bs ≡ got f
  unfolding find_all add_all
  end h =
      let e = nil_from_length bs h in
      cond-false _ _ _ (ap (overruns attribute_size) e ∙ attribute_pieces.fits_none) ∙ ap (λ ps. got (add_all peer f ps)) (ap (pieces attribute_size) e ∙ attribute_pieces.none)

  pub over : 0 < length bs → length bs < attribute_size bs → find_all peer f bs ≡ fault 4
  unfolding find_all
  over h l = cond-true _ _ _ (attribute_pieces.over bs h l)

  pub more : 0 < length bs → attribute_size bs ≤ length bs → find_all peer (add peer f (take (attribute_size bs) bs)) (drop (attribute_size bs) bs) ≡ find_all peer f bs
  unfolding find_all add_all
  more h l = sym (ap (λ o. cond o (fault 4) (got (add_all peer f (pieces attribute_size bs)))) (attribute_pieces.next bs h l) ∙ ap (λ ps. cond (overruns attribute_size (drop (attribute_size bs) bs)) (fault 4) (got (add_all peer f ps))) (attribute_pieces.first bs h))

-- reading a row of attributes one by one
pub ruleset finding = (end, over, more, length-drop)
