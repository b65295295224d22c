-- Going over the fields of an OPEN one by one. Assumes nothing.
use Rattle.std.proofs.Common.{◌≡◌, ℕ, ◌<◌, ◌≤◌, Bool, true, false, cond, ◌||◌, List, [], length, take, drop, Some, None, Option, sym, refl, ap, ◌∙◌, arith}
use Rattle.message.specs.Open.{field_size, is_wrong, is_offer, offers_after}
use Rattle.std.proofs.lemmas.List.{nil_from_length}
use Rattle.std.proofs.lemmas.Bool.Decides.{nat_tests}
use Rattle.wire.proofs.Cuts.{piece_steps}
use Rattle.wire.specs.Pieces.{pieces, overruns, some}
use Rattle.wire.specs.Steps.{PieceSteps}

pub field_pieces : PieceSteps field_size
field_pieces = piece_steps field_size (λ b bs. omega arith)

-- the first field, and then the rest
joined : (over first rest found offered more : Bool) → cond (over || (false || rest)) None (Some (found || (offered || more))) ≡ cond (over || rest) None (Some ((found || offered) || more))
joined over first rest true offered more = refl
joined over first rest false offered more = refl

module _ (offer : List ℕ → Option Bool) (found : Bool) (bs : List ℕ) where
  pub end : length bs ≡ 0 → offers_after offer found bs ≡ Some found
  unfolding offers_after some
  end h =
      let e = nil_from_length bs h in
      let o : overruns field_size bs ≡ false = ap (overruns field_size) e ∙ field_pieces.fits_none in
      let n : pieces field_size bs ≡ [] = ap (pieces field_size) e ∙ field_pieces.none in
      ap (λ ps. cond (overruns field_size bs || some (λ x. is_wrong (offer x)) ps) None (Some (found || some (λ x. is_offer (offer x)) ps))) n
      ∙ ended (overruns field_size bs) found o
    where
      ended : (o found : Bool) → o ≡ false → cond (o || false) None (Some (found || false)) ≡ Some found
      ended o found e = grind (arith, nat_tests)

  pub over : 0 < length bs → length bs < field_size bs → offers_after offer found bs ≡ None
  unfolding offers_after
  over h l = ap (λ o. cond (o || some (λ x. is_wrong (offer x)) (pieces field_size bs)) None (Some (found || some (λ x. is_offer (offer x)) (pieces field_size bs)))) (field_pieces.over bs h l)

  wrong_first : 0 < length bs → field_size bs ≤ length bs → offer (take (field_size bs) bs) ≡ None → offers_after offer found bs ≡ None
  unfolding offers_after some
  wrong_first h l e =
      ap (λ ps. cond (overruns field_size bs || some (λ x. is_wrong (offer x)) ps) None (Some (found || some (λ x. is_offer (offer x)) ps))) (field_pieces.first bs h)
      ∙ ap (λ o. cond (overruns field_size bs || (is_wrong o || some (λ x. is_wrong (offer x)) (pieces field_size (drop (field_size bs) bs)))) None (Some (found || (is_offer o || some (λ x. is_offer (offer x)) (pieces field_size (drop (field_size bs) bs)))))) e
      ∙ or_true (overruns field_size bs) _
    where
      or_true : (o : Bool) (x : Bool) → cond (o || true) None (Some x) ≡ None
      or_true true x = refl
      or_true false x = refl

  more_first : (offered : Bool) → 0 < length bs → field_size bs ≤ length bs → offer (take (field_size bs) bs) ≡ Some offered → offers_after offer (found || offered) (drop (field_size bs) bs) ≡ offers_after offer found bs
  unfolding offers_after some
  more_first offered h l e =
      sym (ap (λ ps. cond (overruns field_size bs || some (λ x. is_wrong (offer x)) ps) None (Some (found || some (λ x. is_offer (offer x)) ps))) (field_pieces.first bs h)
      ∙ ap (λ o. cond (overruns field_size bs || (is_wrong o || some (λ x. is_wrong (offer x)) (pieces field_size (drop (field_size bs) bs)))) None (Some (found || (is_offer o || some (λ x. is_offer (offer x)) (pieces field_size (drop (field_size bs) bs)))))) e
      ∙ ap (λ o. cond (o || (false || some (λ x. is_wrong (offer x)) (pieces field_size (drop (field_size bs) bs)))) None (Some (found || (offered || some (λ x. is_offer (offer x)) (pieces field_size (drop (field_size bs) bs)))))) (field_pieces.next bs h l)
      ∙ joined (overruns field_size (drop (field_size bs) bs)) false (some (λ x. is_wrong (offer x)) (pieces field_size (drop (field_size bs) bs))) found offered (some (λ x. is_offer (offer x)) (pieces field_size (drop (field_size bs) bs))))

  -- the same of a field and the fields behind it
  pub wrong : (field : List ℕ) → 0 < length bs → field_size bs ≤ length bs → field ≡ take (field_size bs) bs → offer field ≡ None → offers_after offer found bs ≡ None
  wrong field h l f e = wrong_first h l (ap offer (sym f) ∙ e)

  pub more : (field after : List ℕ) (offered : Bool) → 0 < length bs → field_size bs ≤ length bs → field ≡ take (field_size bs) bs → after ≡ drop (field_size bs) bs → offer field ≡ Some offered → offers_after offer (found || offered) after ≡ offers_after offer found bs
  more field after offered h l f a e = ap (offers_after offer (found || offered)) a ∙ more_first offered h l (ap offer (sym f) ∙ e)
