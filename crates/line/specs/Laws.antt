-- The laws of lines of n numbers, each stated for any rule of ends.
use Rattle.std.specs.Prelude.{◌≡◌, ℕ, ◌+◌, ◌*◌, ◌<◌, ◌≤◌, List, length, ℤ, pos, ◌+ℤ◌, ◌-ℤ◌, ◌*ℤ◌, unsigned_abs}
use Rattle.line.specs.Line.{OnLine, Sums, missed, place, sum_at, Within}
use Rattle.line.specs.Solver.{Solver, Sound, Admitted}

-- What a rule of ends shows to have the laws, row by row. Its sums are linear in the line. The weight on a place itself exceeds
-- those on all others together by at least 2: where a line is greatest, the sum is at least twice as great.
pub record Dominant (n : ℕ) (sums : Sums) : Type 0 where
  pub adds : (x y : ℕ → ℤ) (j : ℕ) → sums (λ i. x i +ℤ y i) j ≡ sums x j +ℤ sums y j
  pub scales : (c : ℤ) (x : ℕ → ℤ) (j : ℕ) → sums (λ i. c *ℤ x i) j ≡ c *ℤ sums x j
  pub leads : (x : ℕ → ℤ) (j : ℕ) → OnLine n j → ((i : ℕ) → OnLine n i → unsigned_abs (x i) ≤ unsigned_abs (x j)) →
      2 * unsigned_abs (x j) ≤ unsigned_abs (sums x j)

-- Every residual of x for k lies between -g and g.
abbrev pub Residuals : ℕ → Sums → (ℕ → ℤ) → (ℕ → ℤ) → ℕ → Type 0
Residuals n sums x k g = (j : ℕ) → OnLine n j → unsigned_abs (missed sums x k j) ≤ g

-- Whole numbers N over one D: at every place the sum is 6 D times the number of k there.
abbrev pub Solves : ℕ → Sums → (ℕ → ℤ) → ℕ → (ℕ → ℤ) → Type 0
Solves n sums N D k = (j : ℕ) → OnLine n j → sums N j ≡ pos (6 * D) *ℤ k j

-- The fractions N / D are an exact solution of the line k.
pub record Exact (n : ℕ) (sums : Sums) (k N : ℕ → ℤ) (D : ℕ) : Type 0 where
  pub above : 0 < D
  pub solves : Solves n sums N D k

-- Residuals of at most g mean a distance of at most g / 2 from every exact solution.
abbrev pub NearExact : ℕ → Sums → Type 0
NearExact n sums = (k x N : ℕ → ℤ) (D g : ℕ) → Residuals n sums x k g → Exact n sums k N D →
    (j : ℕ) → OnLine n j → 2 * unsigned_abs (pos D *ℤ x j -ℤ N j) ≤ g * D

-- Any two exact solutions are equal as fractions.
abbrev pub OneSolution : ℕ → Sums → Type 0
OneSolution n sums = (k N M : ℕ → ℤ) (D E : ℕ) → Exact n sums k N D → Exact n sums k M E →
    (j : ℕ) → OnLine n j → pos E *ℤ N j ≡ pos D *ℤ M j

-- Every line has an exact solution, and one D serves all lines of n numbers.
abbrev pub Solvable : ℕ → Sums → Type 0
Solvable n sums = (D : ℕ) × ((k : ℕ → ℤ) → (N : ℕ → ℤ) × Exact n sums k N D)

-- A line with residuals of at most g for numbers of at most b is itself at most (6 b + g) / 2.
abbrev pub Sized : ℕ → Sums → Type 0
Sized n sums = (k x : ℕ → ℤ) (b g : ℕ) → ((j : ℕ) → OnLine n j → unsigned_abs (k j) ≤ b) → Residuals n sums x k g →
    (j : ℕ) → OnLine n j → 2 * unsigned_abs (x j) ≤ 6 * b + g

-- A law that every dominant rule of ends has.
abbrev pub OfDominant : (ℕ → Sums → Type 0) → Type 0
OfDominant Law = (n : ℕ) (sums : Sums) → Dominant n sums → Law n sums

-- A law that doubled ends have at every length from 2 on.
abbrev pub OfDoubled : (ℕ → Sums → Type 0) → Type 0
OfDoubled Law = (n : ℕ) → 2 ≤ n → Law n (sum_at n)

-- What every sound solver gives for an admitted line of numbers of at most b is at most (6 b + grade) / 2.
abbrev pub SizedAnswers : Type 0
SizedAnswers = (s : Solver) → Sound s → (k : List ℤ) → Admitted k → (b : ℕ) → Within b k →
    (j : ℕ) → OnLine (length k) j → 2 * unsigned_abs (place (s.rule k) j) ≤ 6 * b + s.grade
