-- The bytes between two places. Assumes nothing.
use Rattle.std.proofs.Common.{◌≡◌, ℕ, ◌+◌, ◌-◌, ◌<◌, ◌≤◌, min, List, length, take, drop, sym, ap, ◌∙◌, ⊎_elim, arith}
use lib.Seq.{paste}
use Rattle.std.proofs.lemmas.List.{length-take, length-drop, take_at, take-take, drop-take, drop-drop, drop_all}
use Rattle.std.proofs.lemmas.Bool.{cases_lt}
use Rattle.intake.specs.Buffer.{Came}

-- its first n bytes, or all if there are fewer, are left out
pub later_start : (bs : List ℕ) (s e n m : ℕ) → s ≤ e → m ≡ min n (e - s) → take (e - (s + m)) (drop (s + m) bs) ≡ drop n (take (e - s) (drop s bs))
later_start bs s e n m l is = ⊎_elim
    (λ (h : n < e - s).
    let m-is : m ≡ n = omega arith in
    let long : n + (e - (s + n)) ≡ e - s = omega arith in
    ap (λ k. take (e - (s + k)) (drop (s + k) bs)) m-is ∙ ap (λ ys. take (e - (s + n)) ys) (sym (drop-drop n s bs)) ∙ sym (drop-take n (e - (s + n)) (drop s bs)) ∙ ap (λ k. drop n (take k (drop s bs))) long)
    (λ (h : e - s ≤ n).
    let none : e - (s + m) ≡ 0 = omega arith in
    ap (λ k. take k (drop (s + m) bs)) none ∙ sym (drop_all n (take (e - s) (drop s bs)) (omega (arith, length-take (e - s) (drop s bs)))))
    (cases_lt n (e - s))

window_is : (bs : List ℕ) (s e : ℕ) → s ≤ e → take (e - s) (drop s bs) ≡ drop s (take e bs)
window_is bs s e l = let long : s + (e - s) ≡ e = omega arith in sym (drop-take s (e - s) bs) ∙ ap (λ k. drop s (take k bs)) long

-- it does not hang on what stands behind it
pub same_window : (bs cs : List ℕ) (s e : ℕ) → s ≤ e → take e cs ≡ take e bs → take (e - s) (drop s cs) ≡ take (e - s) (drop s bs)
same_window bs cs s e l same = window_is cs s e l ∙ ap (drop s) same ∙ sym (window_is bs s e l)

-- bytes are added behind it
pub longer_window : (bs cs : List ℕ) (s e n : ℕ) → s ≤ e → e ≤ length bs → e + n ≤ length cs → take e cs ≡ take e bs → Came (take (e - s) (drop s bs)) n (take (e + n - s) (drop s cs))
longer_window bs cs s e n l h w same =
    let before = length-take (e - s) (drop s bs) in
    let long : length (take (e - s) (drop s bs)) ≡ e - s = omega (arith, length-drop s bs) in
    record {
      kept = ap (λ k. take k (take (e + n - s) (drop s cs))) long ∙ take-take (e - s) (e + n - s) (drop s cs) (omega arith) ∙ same_window bs cs s e l same;
      more = omega (arith, length-take (e + n - s) (drop s cs), length-drop s cs);
    }

-- it is moved to the front
pub moved_window : (bs cs : List ℕ) (s e : ℕ) → s ≤ e → e ≤ length bs → cs ≡ paste bs 0 (drop s bs) (e - s) → take (e - s - 0) (drop 0 cs) ≡ take (e - s) (drop s bs)
moved_window bs cs s e l w is =
    let long : length (take (e - s) (drop s bs)) ≡ e - s = omega (arith, length-take (e - s) (drop s bs), length-drop s bs) in
    let plain : e - s - 0 ≡ e - s = omega arith in
    ap (λ k. take k cs) plain ∙ ap (take (e - s)) is ∙ take_at (take (e - s) (drop s bs)) (drop (0 + (e - s)) bs) (e - s) long
