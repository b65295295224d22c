-- A number and its halves: the sum that twice a number less its set bits comes to. Assumes nothing.
use Rattle.std.proofs.Common.{◌≡◌, ℕ, zero, suc, ◌+◌, ◌*◌, ◌/◌, ◌^◌, ◌<◌, ◌≤◌, sym, ap, ◌∙◌, mul_assoc, add-mul, pow-suc, arith}
use lib.Count.{ones, ones_step}

-- x + x / 2 + x / 4 + .., d of them
unfoldable pub halves : ℕ → ℕ → ℕ
halves zero x = 0
halves (suc d) x = x + halves d (x / 2)

pub twice : (d x : ℕ) → x < 2 ^ d → 2 * x ≡ ones x + halves d x
unfolding halves ones
twice zero zero h = omega arith
twice zero (suc x) h = absurd (omega arith)
twice (suc d) x h = omega (arith, ones_step x, twice d (x / 2) (omega (arith, pow-suc 2 d)))

pub halves_le : (d x y : ℕ) → x ≤ y → halves d x ≤ halves d y
unfolding halves
halves_le zero x y h = omega arith
halves_le (suc d) x y h = omega (arith, halves_le d (x / 2) (y / 2) (omega arith))

double : (t k : ℕ) → t * 2 ^ suc k ≡ t * 2 ^ k * 2
double t k = ap (λ p. t * p) (pow-suc 2 k) ∙ sym (mul_assoc t (2 ^ k) 2)

halves_double : (d t k : ℕ) → halves (suc d) (t * 2 ^ suc k) ≡ t * 2 ^ k * 2 + halves d (t * 2 ^ k)
unfolding halves
halves_double d t k =
    let half : t * 2 ^ suc k / 2 ≡ t * 2 ^ k = omega (arith, double t k) in ap (λ y. t * 2 ^ suc k + halves d y) half ∙ ap (λ y. y + halves d (t * 2 ^ k)) (double t k)

-- between a number and one above it with j zeros at its end, j + 1 at least are lost
pub halves_lt : (j d x t : ℕ) → j < d → x < t * 2 ^ j → halves d x + j < halves d (t * 2 ^ j)
unfolding halves
halves_lt j zero x t l h = absurd (omega arith)
halves_lt zero (suc d) x t l h = omega (arith, halves_le d (x / 2) (t * 1 / 2) (omega arith))
halves_lt (suc j) (suc d) x t l h =
    omega (arith, halves_double d t j, double t j, halves_lt j d (x / 2) t (omega arith) (omega (arith, double t j)))

-- a 1 with k zeros behind it, put at the end of a number
pub halves_one : (k d t : ℕ) → k < d → halves d ((2 * t + 1) * 2 ^ k) + 1 ≡ halves d (2 * t * 2 ^ k) + 2 ^ suc k
unfolding halves
halves_one k zero t l = absurd (omega arith)
halves_one zero (suc d) t l =
    let same : (2 * t + 1) * 1 / 2 ≡ 2 * t * 1 / 2 = omega arith in omega (arith, ap (halves d) same)
halves_one (suc k) (suc d) t l =
    omega (arith, halves_double d (2 * t + 1) k, halves_double d (2 * t) k, halves_one k d t (omega arith), pow-suc 2 (suc k), pow-suc 2 k, add-mul (2 * t) 1 (2 ^ k))
