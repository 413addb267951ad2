-- The uniform bicubic B-spline surface over a grid of control points, and the control grids whose surface goes through given samples.
-- Rows and columns count from 1. A place (x, y) is in 32nds: row 1 is x = 32, column 1 is y = 32.
use Rattle.std.specs.Prelude.{◌≡◌, ℕ, zero, suc, ◌+◌, ◌-◌, ◌*◌, ◌/◌, ◌%◌, ◌^◌, ◌<◌, ◌≤◌, ℤ, pos, negsuc, ◌+ℤ◌, ◌-ℤ◌, ◌*ℤ◌, unsigned_abs}
use Rattle.line.specs.Line.{OnLine, Sums, clamped}

-- The four weights at t 32nds past a grid place, each 6 times 32^3 of the basis function; none is negative for t below 32.
abbrev pub weight : ℕ → ℕ → ℕ
weight zero t = (32 - t) ^ 3
weight (suc zero) t = (3 * t ^ 3 + 131072) - 192 * t ^ 2
weight (suc (suc zero)) t = (96 * t ^ 2 + 3072 * t + 32768) - 3 * t ^ 3
weight (suc (suc (suc a))) t = t ^ 3

-- The row or column, of n, of the a-th of the four points around a place: from the one before the place, beyond a rim the rim's own.
abbrev pub line_around : ℕ → ℕ → ℕ → ℕ
line_around n x a = clamped n (x / 32 + a - 1)

-- The sum of four terms.
abbrev pub four : (ℕ → ℤ) → ℤ
four f = ((f 0 +ℤ f 1) +ℤ f 2) +ℤ f 3

-- Sixteen points with the products of four weights u and four weights v.
abbrev pub blend : (ℕ → ℕ) → (ℕ → ℕ) → (ℕ → ℕ → ℤ) → ℤ
blend u v c = four (λ a. four (λ b. pos (u a * v b) *ℤ c a b))

-- The sum over the sixteen control points around a place, each times its two weights: F times the surface there.
abbrev pub patch_sum : ℕ → ℕ → (ℕ → ℕ → ℤ) → ℕ → ℕ → ℤ
patch_sum rows columns c x y =
    blend (λ a. weight a (x % 32)) (λ b. weight b (y % 32)) (λ a b. c (line_around rows x a) (line_around columns y b))

-- What the sixteen products of weights add up to: 36 times 2^30.
abbrev pub F : ℕ
F = 36 * 2 ^ 30

-- The greatest whole number not above v / d.
abbrev pub floored : ℤ → ℕ → ℤ
floored (pos v) d = pos (v / d)
floored (negsuc v) d = negsuc (v / d)

-- A sum over F, rounded to the nearest whole number, and up from the middle: the greatest whole number not above (2 e + F) / 2 F.
unfoldable pub rounded : ℤ → ℤ
rounded e = floored (pos 2 *ℤ e +ℤ pos F) (2 * F)

-- The tolerance of a reading, in fine units, by the first grade and the second grade.
abbrev pub tolerance_of : ℕ → ℕ → ℕ
tolerance_of first second = second + 3 * first + 1

-- Whole numbers N over one D: at every grid place the sum down of the sums across, nine terms with the weights 1, 4, 1 times 1, 4, 1,
-- is 36 times 16 D times the sample there. (Sixteen fine units make one unit of the samples.)
abbrev pub Through : ℕ → ℕ → Sums → Sums → (ℕ → ℕ → ℤ) → ℕ → (ℕ → ℕ → ℤ) → Type 0
Through rows columns down across N D sample =
    (r s : ℕ) → OnLine rows r → OnLine columns s → down (λ i. across (N i) s) r ≡ pos (36 * 16 * D) *ℤ sample r s

-- The fractions N / D are control points whose surface goes through the samples, the rims continued by one rule of ends.
pub record ExactGrid (ends : ℕ → Sums) (rows columns : ℕ) (sample N : ℕ → ℕ → ℤ) (D : ℕ) : Type 0 where
  pub above : 0 < D
  pub through : Through rows columns (ends rows) (ends columns) N D sample

-- Twice the distance of a reading from the surface of the control points N / D at a place is at most a tolerance.
abbrev pub Near : ℕ → ℕ → (ℕ → ℕ → ℤ) → ℕ → ℕ → ℕ → ℤ → ℕ → Type 0
Near rows columns N D x y reading tolerance =
    2 * unsigned_abs (pos (F * D) *ℤ reading -ℤ patch_sum rows columns N x y) ≤ tolerance * (F * D)
