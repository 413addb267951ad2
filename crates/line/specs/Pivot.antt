-- The pivots w of a line of n numbers with doubled ends, over the denominator.
use Rattle.std.specs.Prelude.{ℕ, zero, suc, ◌-◌, ◌*◌, ◌/◌, if◌then◌else◌, ◌||◌, ◌==◌}
use Rattle.line.specs.FixedPoint.{denominator}

-- The weight of a place in its own sum: an end counts its doubled number too.
abbrev pub diagonal : ℕ → ℕ → ℕ
diagonal n j = if j == 1 || j == n then 5 else 4

-- w 0 = 0, and w j = 1 / (diagonal j - w (j - 1)), rounded down.
unfoldable pub pivot : ℕ → ℕ → ℕ
pivot n zero = 0
pivot n (suc j) = denominator * denominator / (diagonal n (suc j) * denominator - pivot n j)
