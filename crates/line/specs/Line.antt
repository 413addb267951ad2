-- A line: its places, how it goes on beyond its ends, its sums and its residuals.
use Rattle.std.specs.Prelude.{ℕ, ◌+◌, ◌-◌, ◌≤◌, min, max, List, length, ℤ, pos, ◌+ℤ◌, ◌-ℤ◌, ◌*ℤ◌, slice_index_or, unsigned_abs}

-- The number of a line at a place; places count from 1.
abbrev pub place : List ℤ → ℕ → ℤ
place x j = slice_index_or x (j - 1) (pos 0)

-- The places of a line of n numbers.
abbrev pub OnLine : ℕ → ℕ → Type 0
OnLine n j = (1 ≤ j) × (j ≤ n)

-- A rule of ends says how a line goes on beyond its ends: given the number at each place, it gives the sum at each place.
abbrev pub Sums : Type 0
Sums = (ℕ → ℤ) → ℕ → ℤ

-- Where a place beyond an end leads when the ends are doubled: 0 to 1, and n + 1 to n.
abbrev pub clamped : ℕ → ℕ → ℕ
clamped n j = max 1 (min n j)

-- The sum at place j of a line of n numbers with doubled ends: the number before, four times its own, the number after.
abbrev pub sum_at : ℕ → Sums
sum_at n x j = (x (clamped n (j - 1)) +ℤ pos 4 *ℤ x j) +ℤ x (clamped n (j + 1))

-- By how much the sum of x at a place misses six times the number of k there.
abbrev pub missed : Sums → (ℕ → ℤ) → (ℕ → ℤ) → ℕ → ℤ
missed sums x k j = sums x j -ℤ pos 6 *ℤ k j

-- The residual of the line x for the line k at place j, with doubled ends.
abbrev pub residual : List ℤ → List ℤ → ℕ → ℤ
residual x k j = missed (sum_at (length k)) (place x) (place k) j

-- Every number of a line lies within a bound either way.
abbrev pub Within : ℕ → List ℤ → Type 0
Within b k = (j : ℕ) → OnLine (length k) j → unsigned_abs (place k j) ≤ b
