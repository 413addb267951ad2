-- The laws of grids and readings: one exact control grid, how near fitted control points come to it, how near a reading comes to the surface.
use Rattle.std.specs.Prelude.{◌≡◌, ℕ, ◌+◌, ◌*◌, ◌≤◌, ℤ, pos, ◌-ℤ◌, ◌*ℤ◌, unsigned_abs}
use Rattle.line.specs.Line.{OnLine, Sums, sum_at}
use Rattle.surface.specs.Surface.{ExactGrid, F, patch_sum, Near, line_around}

-- A law that a rule of ends has on grids of every size from 2 by 2 on.
abbrev pub OfGrids : (ℕ → ℕ → Type 0) → Type 0
OfGrids Law = (rows columns : ℕ) → 2 ≤ rows → 2 ≤ columns → Law rows columns

-- Every grid of samples has an exact control grid.
abbrev pub SomeGrid : (ℕ → Sums) → ℕ → ℕ → Type 0
SomeGrid ends rows columns =
    (sample : ℕ → ℕ → ℤ) → (N : ℕ → ℕ → ℤ) × (D : ℕ) × ExactGrid ends rows columns sample N D

-- Any two exact control grids of the same samples are equal as fractions.
abbrev pub OneGrid : (ℕ → Sums) → ℕ → ℕ → Type 0
OneGrid ends rows columns =
    (sample N M : ℕ → ℕ → ℤ) (D E : ℕ) → ExactGrid ends rows columns sample N D → ExactGrid ends rows columns sample M E →
    (r s : ℕ) → OnLine rows r → OnLine columns s → pos E *ℤ N r s ≡ pos D *ℤ M r s

-- Rows fitted first: half points along every row with residuals of at most g₁ for 16 times the samples, and control points along one column
-- with residuals of at most g₂ for the half points. Twice that column's distance from every exact grid is at most g₂ + 3 g₁.
abbrev pub RowsThenColumn : (ℕ → Sums) → ℕ → ℕ → Type 0
RowsThenColumn ends rows columns =
    (sample half N : ℕ → ℕ → ℤ) (D s g₁ g₂ : ℕ) (control : ℕ → ℤ) → ExactGrid ends rows columns sample N D → OnLine columns s →
    ((r t : ℕ) → OnLine rows r → OnLine columns t → unsigned_abs (ends columns (half r) t -ℤ pos 96 *ℤ sample r t) ≤ g₁) →
    ((r : ℕ) → OnLine rows r → unsigned_abs (ends rows control r -ℤ pos 6 *ℤ half r s) ≤ g₂) →
    (r : ℕ) → OnLine rows r → 2 * unsigned_abs (pos D *ℤ control r -ℤ N r s) ≤ (g₂ + 3 * g₁) * D

-- Columns fitted first: the same with rows and columns exchanged.
abbrev pub ColumnsThenRow : (ℕ → Sums) → ℕ → ℕ → Type 0
ColumnsThenRow ends rows columns =
    (sample half N : ℕ → ℕ → ℤ) (D r g₁ g₂ : ℕ) (control : ℕ → ℤ) → ExactGrid ends rows columns sample N D → OnLine rows r →
    ((t s : ℕ) → OnLine rows t → OnLine columns s → unsigned_abs (ends rows (λ i. half i s) t -ℤ pos 96 *ℤ sample t s) ≤ g₁) →
    ((s : ℕ) → OnLine columns s → unsigned_abs (ends columns control s -ℤ pos 6 *ℤ half r s) ≤ g₂) →
    (s : ℕ) → OnLine columns s → 2 * unsigned_abs (pos D *ℤ control s -ℤ N r s) ≤ (g₂ + 3 * g₁) * D

-- The sixteen control points around a place are, twice over, within m of the fractions N / D.
abbrev pub AroundNear : ℕ → ℕ → (ℕ → ℕ → ℤ) → (ℕ → ℕ → ℤ) → ℕ → ℕ → ℕ → ℕ → Type 0
AroundNear rows columns control N D x y m =
    (a b : ℕ) → a ≤ 3 → b ≤ 3 →
    2 * unsigned_abs (pos D *ℤ control (line_around rows x a) (line_around columns y b) -ℤ N (line_around rows x a) (line_around columns y b)) ≤ m * D

-- Then a reading that was rounded from their sum is, twice over, within m + 1 of the surface.
abbrev pub ReadsNear : Type 0
ReadsNear =
    (rows columns : ℕ) (control N : ℕ → ℕ → ℤ) (D x y m : ℕ) (reading : ℤ) → AroundNear rows columns control N D x y m →
    2 * unsigned_abs (pos F *ℤ reading -ℤ patch_sum rows columns control x y) ≤ F → Near rows columns N D x y reading (m + 1)

-- At a grid place a reading that was rounded from a nine-term sum within 6 g of 576 times the sample is, six times over, within g + 3 of 16 times it.
abbrev pub ReadsSample : Type 0
ReadsSample =
    (rows columns : ℕ) (control : ℕ → ℕ → ℤ) (r s g : ℕ) (sample reading : ℤ) → OnLine rows r → OnLine columns s →
    unsigned_abs (sum_at rows (λ i. sum_at columns (control i) s) r -ℤ pos 576 *ℤ sample) ≤ 6 * g →
    2 * unsigned_abs (pos F *ℤ reading -ℤ patch_sum rows columns control (32 * r) (32 * s)) ≤ F →
    6 * unsigned_abs (reading -ℤ pos 16 *ℤ sample) ≤ g + 3
