-- Four numbers with four weights, for the sums of a reading.
use Rattle.std.specs.Prelude.{ℕ, ◌<◌, ◌≤◌, List, ℤ, pos, ◌*ℤ◌, slice_index_or, unsigned_abs}
use Rattle.surface.specs.Surface.{four}

-- Each of the four lies within m either way.
abbrev pub Low : ℕ → List ℤ → Type 0
Low m v = (b : ℕ) → b < 4 → unsigned_abs (slice_index_or v b (pos 0)) ≤ m

-- The sum of the four, each times its weight.
abbrev pub products_of : List ℤ → (ℕ → ℤ) → ℤ
products_of w v = four (λ b. slice_index_or w b (pos 0) *ℤ v b)

-- The same of a list.
abbrev pub products : List ℤ → List ℤ → ℤ
products w v = products_of w (λ b. slice_index_or v b (pos 0))
