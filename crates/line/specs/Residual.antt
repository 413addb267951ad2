-- The residual as a call answers it: none off the line, and none where the two lines differ in length.
use Rattle.std.specs.Prelude.{ℕ, if◌then◌else◌, ◌&&◌, List, length, ℤ, Some, None, Option, ◌==◌, nat_le}
use Rattle.line.specs.Line.{residual}

-- The residual of x for k at place j, where x is as long as k and has that place.
abbrev pub residual_answer : List ℤ → List ℤ → ℕ → Option ℤ
residual_answer x k j = if length x == length k && (nat_le 1 j && nat_le j (length k)) then Some (residual x k j) else None
