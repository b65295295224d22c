-- Gathering a path segment by segment gives the path. Assumes nothing.
use Rattle.std.proofs.Common.{◌≡◌, ℕ, ◌+◌, ◌/◌, ◌<◌, ◌≤◌, Bool, true, false, cond, not, ◌&&◌, eqb, ltb, leb, List, [], ◌∷◌, ◌++◌, length, get_or, take, drop, Some, None, Option, sym, refl, ap, ◌∙◌, arith, length-append, length-drop}
use Rattle.attributes.specs.AsPath.{got, fault, segment_size, asns_in, is_sequence, asns_of_all, path_in, are_sequences, read_path}
use Rattle.attributes.specs.Gathering.{with_numbers, with_segment, gathered, or_invalid, read_segments}
use Rattle.attributes.proofs.Numerals.{count}
use Rattle.std.proofs.lemmas.List.{nil_from_length, length-take-le, append_assoc, append-nil}
use Rattle.std.proofs.lemmas.Bool.{cond-true, cond-false}
use Rattle.std.proofs.lemmas.Bool.Decides.{nat_tests}
use Rattle.wire.proofs.Cuts.{piece_steps}
use Rattle.wire.specs.Bytes.{numbers}
use Rattle.wire.specs.Pieces.{pieces, overruns, some}
use Rattle.wire.specs.Steps.{PieceSteps}

segment_pieces : PieceSteps segment_size
segment_pieces = piece_steps segment_size (λ b bs. omega arith)

module _ (room : ℕ) (asns : Option (List ℕ)) (bs : List ℕ) where
  pub end : length bs ≡ 0 → read_segments room asns bs ≡ or_invalid asns
  unfolding read_segments gathered
  end h =
      let e = nil_from_length bs h in
      cond-false _ _ _ (ap (overruns segment_size) e ∙ segment_pieces.fits_none) ∙ ap (λ ps. or_invalid (gathered room asns ps)) (ap (pieces segment_size) e ∙ segment_pieces.none)

  pub over : 0 < length bs → length bs < segment_size bs → read_segments room asns bs ≡ fault 5
  unfolding read_segments
  over h l = cond-true _ _ _ (segment_pieces.over bs h l)

  pub more : 0 < length bs → segment_size bs ≤ length bs → read_segments room (with_segment room asns (take (segment_size bs) bs)) (drop (segment_size bs) bs) ≡ read_segments room asns bs
  unfolding read_segments gathered
  more h l = sym (ap (λ o. cond o (fault 5) (or_invalid (gathered room asns (pieces segment_size bs)))) (segment_pieces.next bs h l) ∙ ap (λ ps. cond (overruns segment_size (drop (segment_size bs) bs)) (fault 5) (or_invalid (gathered room asns ps))) (segment_pieces.first bs h))

-- gathering a path segment by segment
pub ruleset gathering = (end, over, more, length-drop)

module _ (room : ℕ) (asns s : List ℕ) where
  pub other : (get_or s 0 0 ≡ 2 → ⊥) → with_segment room (Some asns) s ≡ None
  unfolding with_segment
  other h = grind (arith, nat_tests)

  pub empty : length (drop 2 s) < 4 → with_segment room (Some asns) s ≡ None
  unfolding with_segment
  empty h = let c = count (drop 2 s) in let z : length (numbers (drop 2 s)) ≡ 0 = omega arith in grind (arith, nat_tests)

  pub sequence : get_or s 0 0 ≡ 2 → 4 ≤ length (drop 2 s) → with_segment room (Some asns) s ≡ with_numbers room asns (drop 2 s)
  unfolding with_segment with_numbers
  sequence e h =
      let c = count (drop 2 s) in
      let y : 0 < length (numbers (drop 2 s)) = omega arith in
      grind (arith, nat_tests)

pub with_none : (room : ℕ) (s : List ℕ) → with_segment room None s ≡ None
unfolding with_segment
with_none room s = refl

-- one more segment
pub ruleset one_more = (with_none, other, empty, sequence)

-- once something is no path, the rest does not matter
gathered_none : (room : ℕ) (ss : List (List ℕ)) → gathered room None ss ≡ None
unfolding gathered with_segment
gathered_none room [] = refl
gathered_none room (s ∷ ss) = gathered_none room ss

-- gathering is joining where all are sequences and there is room for all
gathered_all : (room : ℕ) (asns : List ℕ) (ss : List (List ℕ)) → length asns ≤ room → gathered room (Some asns) ss ≡ cond (not (some (λ s. not (is_sequence s)) ss) && leb (length asns + length (asns_of_all ss)) room) (Some (asns ++ asns_of_all ss)) None
unfolding gathered with_segment some asns_of_all
gathered_all room asns [] h = let e = append-nil asns in grind (arith, nat_tests)
gathered_all room asns (s ∷ ss) h =
    let nothing = gathered_none room ss in
    let more = gathered_all room (asns ++ asns_in s) ss in
    let long = length-append asns (asns_in s) in
    let longer = length-append (asns_in s) (asns_of_all ss) in
    let joined = append_assoc asns (asns_in s) (asns_of_all ss) in
    grind (arith, nat_tests)

whole : (value : List ℕ) → read_segments 32 (Some []) value ≡ cond (overruns segment_size value) (fault 5) (cond (are_sequences value && leb (length (path_in value)) 32) (got (path_in value)) (fault 6))
unfolding read_segments
whole value =
    let all = gathered_all 32 [] (pieces segment_size value) (omega arith) in
    grind (arith, nat_tests)

failed : (asn k : ℕ) (value : List ℕ) → read_segments 32 (Some []) value ≡ fault k → read_path asn value ≡ fault k
unfolding read_path
failed asn k value e = let w = whole value in grind (arith, nat_tests)

-- what is known where something was got
taken_apart : (over good short : Bool) (p asns : List ℕ) → cond over (fault 5) (cond (good && short) (got p) (fault 6)) ≡ got asns → (over ≡ false) × (good ≡ true) × (short ≡ true) × (p ≡ asns)
taken_apart true good short p asns e = absurd (let z : ◌≡◌ {A = ℕ} 0 1 = cc in omega arith)
taken_apart false false short p asns e = absurd (let z : ◌≡◌ {A = ℕ} 0 1 = cc in omega arith)
taken_apart false true false p asns e = absurd (let z : ◌≡◌ {A = ℕ} 0 1 = cc in omega arith)
taken_apart false true true p asns e = (refl, refl, refl, cc)

joined_path : (over good : Bool) (p asns : List ℕ) (asn : ℕ) → over ≡ false → good ≡ true → leb (length p) 32 ≡ true → p ≡ asns → cond over (fault 5) (cond (good && (ltb 0 (length p) && (leb (length p) 32 && eqb (get_or p 0 0) asn))) (got p) (fault 6)) ≡ cond (ltb 0 (length asns) && eqb (get_or asns 0 0) asn) (got asns) (fault 6)
joined_path over good p asns asn o g s e = grind (arith, nat_tests)

module _ (asn : ℕ) (asns value : List ℕ) (e : read_segments 32 (Some []) value ≡ got asns) where
  -- what was gathered is the path, within the limit
  gathered_path : (overruns segment_size value ≡ false) × (are_sequences value ≡ true) × (leb (length (path_in value)) 32 ≡ true) × (path_in value ≡ asns)
  gathered_path = taken_apart (overruns segment_size value) (are_sequences value) (leb (length (path_in value)) 32) (path_in value) asns (sym (whole value) ∙ e)

  pub read_from : read_path asn value ≡ cond (ltb 0 (length asns) && eqb (get_or asns 0 0) asn) (got asns) (fault 6)
  unfolding read_path
  read_from =
      let g = gathered_path in
      let o = g.0 in
      let s = g.1 in
      let l = g.2 in
      joined_path (overruns segment_size value) (are_sequences value) (path_in value) asns asn o s l g.3

pub from_failed : (asn k : ℕ) (value : List ℕ) → fault k ≡ read_segments 32 (Some []) value → fault k ≡ read_path asn value
from_failed asn k value e = sym (failed asn k value (sym e))

-- what was gathered is a path of the peer's, or not
pub ruleset paths = (from_failed, read_from)
