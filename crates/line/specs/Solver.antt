-- What a line solver means, and what it has to show.
use Rattle.std.specs.Prelude.{◌≡◌, ℕ, ◌≤◌, List, length, ℤ, pos, unsigned_abs}
use Rattle.line.specs.Line.{OnLine, residual, Within}

-- The greatest number, either way, that a line for a solver may hold.
abbrev pub limit : ℕ
limit = 5000000

-- A line that every solver takes: 2 to 64 numbers, none beyond the limit.
pub record Admitted (k : List ℤ) : Type 0 where
  pub low : 2 ≤ length k
  pub high : length k ≤ 64
  pub small : Within limit k

-- A fixed rule from lines to lines, and the constant that bounds its residuals.
pub record Solver : Type 0 where
  pub grade : ℕ
  pub rule : List ℤ → List ℤ

-- What every solver shows: its grade is from 1 to 12, its line is as long as the line given,
-- and on every admitted line each residual lies between -grade and grade.
pub record Sound (s : Solver) : Type 0 where
  pub graded : (1 ≤ s.grade) × (s.grade ≤ 12)
  pub long : (k : List ℤ) → length (s.rule k) ≡ length k
  pub near : (k : List ℤ) → Admitted k → (j : ℕ) → OnLine (length k) j → unsigned_abs (residual (s.rule k) k j) ≤ s.grade

-- Whole numbers z are the exact solution of a line k: no residual is left.
pub record WholeSolution (k z : List ℤ) : Type 0 where
  pub long : length z ≡ length k
  pub meets : (j : ℕ) → OnLine (length k) j → residual z k j ≡ pos 0
