-- Numbers of 4 bytes in a row of bytes. Assumes nothing.
use Rattle.std.proofs.Common.{◌≡◌, ℕ, ◌+◌, ◌/◌, ◌<◌, ◌≤◌, List, [], ◌∷◌, ◌++◌, length, take, drop, Some, None, refl, arith, length-append, length-drop, take_all}
use Rattle.std.proofs.lemmas.List.{append-nil, append_assoc}
use Rattle.std.proofs.Math.Seq.{take-append_seam}
use Rattle.std.proofs.lemmas.Bool.Decides.{nat_tests}
use Rattle.attributes.specs.Gathering.{with_numbers}
use Rattle.wire.specs.Bytes.{numbers, u32_of}

pub numbers_end : (bs : List ℕ) → length bs < 4 → numbers bs ≡ []
unfolding numbers
numbers_end [] h = refl
numbers_end (a ∷ []) h = refl
numbers_end (a ∷ b ∷ []) h = refl
numbers_end (a ∷ b ∷ c ∷ []) h = refl
numbers_end (a ∷ b ∷ c ∷ d ∷ bs) h = absurd (omega arith)

-- the first number stands in the first 4 bytes
number_first : (bs : List ℕ) → 4 ≤ length bs → numbers bs ≡ u32_of (take 4 bs) ∷ numbers (drop 4 bs)
unfolding numbers
number_first [] h = absurd (omega arith)
number_first (a ∷ []) h = absurd (omega arith)
number_first (a ∷ b ∷ []) h = absurd (omega arith)
number_first (a ∷ b ∷ c ∷ []) h = absurd (omega arith)
number_first (a ∷ b ∷ c ∷ d ∷ bs) h = refl

pub count : (bs : List ℕ) → length (numbers bs) ≡ length bs / 4
unfolding numbers
count [] = refl
count (a ∷ []) = refl
count (a ∷ b ∷ []) = refl
count (a ∷ b ∷ c ∷ []) = refl
count (a ∷ b ∷ c ∷ d ∷ bs) = let more = count bs in omega arith

module _ (room : ℕ) (ns bs : List ℕ) where
  pub with_none : length bs < 4 → length ns ≤ room → with_numbers room ns bs ≡ Some ns
  unfolding with_numbers
  with_none h l =
      let none = numbers_end bs h in
      let whole = append-nil ns in
      let z : length (numbers bs) ≡ 0 = omega (arith, count bs) in
      grind (arith, nat_tests)

  pub with_more : 4 ≤ length bs → with_numbers room (ns ++ u32_of (take 4 bs) ∷ []) (drop 4 bs) ≡ with_numbers room ns bs
  unfolding with_numbers
  with_more h =
      let first = number_first bs h in
      let longer = length-append ns (u32_of (take 4 bs) ∷ []) in
      let joined = append_assoc ns (u32_of (take 4 bs) ∷ []) (numbers (drop 4 bs)) in
      grind (arith, nat_tests)

  pub with_full : 4 ≤ length bs → length ns ≡ room → with_numbers room ns bs ≡ None
  unfolding with_numbers
  with_full h l =
      let c = count bs in
      let z : room < length ns + length (numbers bs) = omega arith in
      grind (arith, nat_tests)

  -- as many as there is room for
  pub front_none : length bs < 4 → length ns ≤ room → take room (ns ++ numbers bs) ≡ ns
  front_none h l =
      let none = numbers_end bs h in
      let whole = append-nil ns in
      let all = take_all room ns l in
      cc

  pub front_more : 4 ≤ length bs → take room ((ns ++ u32_of (take 4 bs) ∷ []) ++ numbers (drop 4 bs)) ≡ take room (ns ++ numbers bs)
  front_more h =
      let first = number_first bs h in
      let joined = append_assoc ns (u32_of (take 4 bs) ∷ []) (numbers (drop 4 bs)) in
      cc

  pub front_full : length ns ≡ room → take room (ns ++ numbers bs) ≡ ns
  front_full l =
      let front = take-append_seam ns (numbers bs) in
      cc

-- the numbers of a row of bytes one by one
pub ruleset numbering = (with_none, with_more, with_full, front_none, front_more, front_full, length-drop)
