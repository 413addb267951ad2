-- Elimination: one sweep forward and one back over a line in finer units. n is the length of the line, w j the pivot of row j.
use Rattle.std.specs.Prelude.{ℕ, zero, suc, ◌+◌, ◌-◌, ◌*◌, List, map, length, ℤ, pos, ◌-ℤ◌, ◌*ℤ◌}
use Rattle.std.specs.List.{range_with_len}
use Rattle.line.specs.Line.{place}
use Rattle.line.specs.Solver.{Solver, limit}
use Rattle.line.specs.FixedPoint.{scale, fraction, nearest_line}
use Rattle.line.specs.Pivot.{pivot}

-- Forward: g 0 = 0, and g j = w j (6 k j - g (j - 1)), in finer units.
unfoldable pub forward : List ℤ → ℕ → ℤ
forward k zero = pos 0
forward k (suc j) = fraction (pos (pivot (length k) (suc j))) (pos (6 * scale) *ℤ place k (suc j) -ℤ forward k j)

-- The line of the numbers g.
abbrev pub forwards : List ℤ → List ℤ
forwards k = map (forward k) (range_with_len 1 (length k))

-- Back: x (n + 1) = 0, and x j = g j - w j x (j + 1). Counted from the end: back g i is x (n + 1 - i).
unfoldable pub back : List ℤ → ℕ → ℤ
back g zero = pos 0
back g (suc i) = place g (length g - i) -ℤ fraction (pos (pivot (length g) (length g - i))) (back g i)

-- The number x j in finer units.
abbrev pub fine : List ℤ → ℕ → ℤ
fine g j = back g (length g + 1 - j)

-- The line of the numbers x, each rounded to the nearest whole one.
abbrev pub backs : List ℤ → List ℤ
backs g = nearest_line scale (length g) (fine g)

-- No number g of an admitted line is greater than this, either way.
abbrev pub forward_limit : ℕ
forward_limit = 6 * scale * limit + 1

-- And no number x, in finer units, is greater than this.
abbrev pub back_limit : ℕ
back_limit = 2 * forward_limit + 1

-- The solver: both sweeps, grade 3.
abbrev pub elimination : Solver
elimination = record { grade = 3; rule = λ k. backs (forwards k) }
