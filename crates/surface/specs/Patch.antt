-- What the calls about one place answer: the lines around it, its weights, the reading of its sixteen points.
use Rattle.std.specs.Prelude.{ℕ, ◌%◌, Bool, if◌then◌else◌, List, [], map, ℤ, pos, Some, None, Option, nat_le, slice_index_or, unsigned_abs}
use Rattle.std.specs.List.{list_all, range_with_len}
use Rattle.surface.specs.Surface.{weight, line_around, blend, rounded}

-- The four rows or columns, of n, around a place.
abbrev pub lines_around : ℕ → ℕ → List ℕ
lines_around n x = map (line_around n x) (range_with_len 0 4)

-- The four weights at a place.
abbrev pub weights_at : ℕ → List ℤ
weights_at x = map (λ a. pos (weight a (x % 32))) (range_with_len 0 4)

-- The greatest point, either way, that is read.
abbrev pub reach : ℕ
reach = 16000000

-- A test passes at every number below n.
abbrev pub all_below : ℕ → (ℕ → Bool) → Bool
all_below n f = list_all f (range_with_len 0 n)

-- The number of row a and column b, each from 0 to 3, of four rows of four.
abbrev pub point : List (List ℤ) → ℕ → ℕ → ℤ
point rows a b = slice_index_or (slice_index_or rows a []) b (pos 0)

-- Sixteen points, by row and column from 0, lie within reach.
abbrev pub within_reach : (ℕ → ℕ → ℤ) → Bool
within_reach c = all_below 4 (λ a. all_below 4 (λ b. nat_le (unsigned_abs (c a b)) reach))

-- The sum of sixteen points around a place, each times its two weights.
abbrev pub sum_around : (ℕ → ℕ → ℤ) → ℕ → ℕ → ℤ
sum_around c x y = blend (λ a. weight a (x % 32)) (λ b. weight b (y % 32)) c

-- The reading of sixteen points around a place: none if one lies beyond reach.
abbrev pub patch_reading : List (List ℤ) → ℕ → ℕ → Option ℤ
patch_reading rows x y = if within_reach (point rows) then Some (rounded (sum_around (point rows) x y)) else None
