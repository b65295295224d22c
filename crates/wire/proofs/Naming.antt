-- The prefixes of a part of a message, by its first piece. Assumes nothing.
use Rattle.std.proofs.Common.{◌≡◌, ℕ, ◌<◌, ◌≤◌, Bool, true, false, cond, not, ◌||◌, List, [], ◌∷◌, length, take, drop, sym, ap, ◌∙◌, arith, length-drop}
use Rattle.std.proofs.lemmas.List.{nil_from_length}
use Rattle.std.proofs.lemmas.Bool.{cond-true, cond-false}
use Rattle.std.proofs.lemmas.Bool.Decides.{nat_tests}
use Rattle.wire.specs.Nlri.{prefix_size, holds_prefix, prefix_of, prefixes_of, named, has_no_prefix, checked_after}
use Rattle.wire.specs.declared.nlri.Check.TheVariants.{Overrun, SomeInvalid, Valid}
use Rattle.wire.specs.Pieces.{overruns, some}
use Rattle.wire.specs.Steps.{PieceSteps}
use Rattle.wire.proofs.Cuts.{piece_steps}

pub prefix_pieces : PieceSteps prefix_size
prefix_pieces = piece_steps prefix_size (λ b bs. omega arith)

first : (bs : List ℕ) → 0 < length bs → named bs ≡ cond (holds_prefix (take (prefix_size bs) bs)) (prefix_of (take (prefix_size bs) bs) ∷ named (drop (prefix_size bs) bs)) (named (drop (prefix_size bs) bs))
unfolding named prefixes_of
first bs h = ap prefixes_of (prefix_pieces.first bs h)

nothing : named [] ≡ []
unfolding named prefixes_of
nothing = ap prefixes_of prefix_pieces.none

valid_none : has_no_prefix [] ≡ false
unfolding some
valid_none = ap (some (λ x. not (holds_prefix x))) prefix_pieces.none

valid : (bs : List ℕ) → 0 < length bs → has_no_prefix bs ≡ (not (holds_prefix (take (prefix_size bs) bs)) || has_no_prefix (drop (prefix_size bs) bs))
unfolding some
valid bs h = ap (some (λ x. not (holds_prefix x))) (prefix_pieces.first bs h)

-- what was met in a piece counts as met before the rest
joined_checks : (invalid here rest all over over' : Bool) → over ≡ over' → all ≡ (here || rest) → cond over' Overrun (cond ((invalid || here) || rest) SomeInvalid Valid) ≡ cond over Overrun (cond (invalid || all) SomeInvalid Valid)
joined_checks true here rest all over over' e f = ap (λ o. cond o Overrun SomeInvalid) (sym e)
joined_checks false here rest all over over' e f = ap (λ o. cond o Overrun (cond (here || rest) SomeInvalid Valid)) (sym e) ∙ ap (λ a. cond over Overrun (cond a SomeInvalid Valid)) (sym f)

pub end_of : (bs : List ℕ) → length bs ≡ 0 → named bs ≡ []
end_of bs h = ap named (nil_from_length bs h) ∙ nothing

pub checked_end : (invalid : Bool) (bs : List ℕ) → length bs ≡ 0 → checked_after invalid bs ≡ cond invalid SomeInvalid Valid
unfolding checked_after
checked_end invalid bs h =
    let e = nil_from_length bs h in
    let fits : overruns prefix_size bs ≡ false = ap (overruns prefix_size) e ∙ prefix_pieces.fits_none in
    let fine : has_no_prefix bs ≡ false = ap has_no_prefix e ∙ valid_none in
    grind (arith, nat_tests)

pub checked_over : (invalid : Bool) (bs : List ℕ) → 0 < length bs → length bs < prefix_size bs → checked_after invalid bs ≡ Overrun
unfolding checked_after
checked_over invalid bs h l = let long = prefix_pieces.over bs h l in grind (arith, nat_tests)

pub checked_more : (invalid : Bool) (bs : List ℕ) → 0 < length bs → prefix_size bs ≤ length bs → checked_after (invalid || not (holds_prefix (take (prefix_size bs) bs))) (drop (prefix_size bs) bs) ≡ checked_after invalid bs
unfolding checked_after
checked_more invalid bs h l =
    let fits = prefix_pieces.next bs h l in
    let fine = valid bs h in
    joined_checks invalid (not (holds_prefix (take (prefix_size bs) bs))) _ _ _ _ fits fine

-- checking a row of prefixes piece by piece
pub ruleset checking = (checked_end, checked_over, checked_more, length-drop)

pub met : (bs piece after : List ℕ) → 0 < length bs → piece ≡ take (prefix_size bs) bs → after ≡ drop (prefix_size bs) bs → holds_prefix piece ≡ true → named bs ≡ prefix_of piece ∷ named after
met bs piece after h p a e =
    let here : holds_prefix (take (prefix_size bs) bs) ≡ true = ap holds_prefix (sym p) ∙ e in
    first bs h ∙ cond-true _ _ _ here ∙ ap (λ x. prefix_of x ∷ named (drop (prefix_size bs) bs)) (sym p) ∙ ap (λ x. prefix_of piece ∷ named x) (sym a)

pub passed : (bs piece after : List ℕ) → 0 < length bs → piece ≡ take (prefix_size bs) bs → after ≡ drop (prefix_size bs) bs → holds_prefix piece ≡ false → named after ≡ named bs
passed bs piece after h p a e =
    let here : holds_prefix (take (prefix_size bs) bs) ≡ false = ap holds_prefix (sym p) ∙ e in
    ap named a ∙ sym (first bs h ∙ cond-false _ _ _ here)

-- the prefixes of a row by its first piece
pub ruleset naming = (end_of, met, passed, length-drop)
