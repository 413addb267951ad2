-- Numbers g and x of the two sweeps, each step of them met within c: then x has the sums k within 12 c.
use Rattle.std.specs.Prelude.{◌≡◌, ℕ, zero, suc, ◌+◌, ◌*◌, ◌<◌, ◌≤◌, ℤ, pos, ◌+ℤ◌, ◌-ℤ◌, ◌*ℤ◌, unsigned_abs}
use Rattle.std.proofs.Common.{arith, add-one}
use Rattle.std.proofs.lemmas.Int.{ints}
use Rattle.std.proofs.lemmas.Bool.Decides.{nat_tests}
use Rattle.line.specs.Line.{OnLine, sum_at}
use Rattle.line.specs.FixedPoint.{denominator}
use Rattle.line.specs.Pivot.{diagonal, pivot}
use Rattle.line.specs.Pivots.{divisor, divisor_is, divisor_high, rest, rest_is, rest_high}
use Rattle.line.specs.Row.{row}

-- The last row, a row between the ends, and a row of zeros before the first.

diagonal_last : (n : ℕ) → diagonal n n ≡ 5
diagonal_last n = grind arith

diagonal_inner : (n j : ℕ) → 1 < j → j < n → diagonal n j ≡ 4
diagonal_inner n j p q = grind arith

nothing : (q : ℕ) (x : ℤ) (b : ℕ) → unsigned_abs ((pos q *ℤ pos 0 -ℤ pos q *ℤ pos 0) +ℤ pos 0 *ℤ x) ≤ b
nothing q x b = omega (arith, ints)

-- the doubled points count on the diagonal, and 0 stands beyond the ends

first_sum : (n : ℕ) (x : ℕ → ℤ) → 2 ≤ n → sum_at n x 1 ≡ (pos 0 +ℤ pos (diagonal n 1) *ℤ x 1) +ℤ x 2
first_sum n x two = grind arith

later_sum : (n : ℕ) (x : ℕ → ℤ) → x (n + 1) ≡ pos 0 → (i : ℕ) → OnLine n (suc (suc i)) →
    sum_at n x (suc (suc i)) ≡ (x (suc i) +ℤ pos (diagonal n (suc (suc i))) *ℤ x (suc (suc i))) +ℤ x (suc (suc i) + 1)
later_sum n x end i on = grind (arith, nat_tests)

module _ (n c : ℕ) (k g x : ℕ → ℤ) (two : 2 ≤ n) (some : 1 ≤ c) (start : g 0 ≡ pos 0) (end : x (n + 1) ≡ pos 0)
    (forth : (j : ℕ) → suc j ≤ n → unsigned_abs (pos denominator *ℤ g (suc j) -ℤ pos (pivot n (suc j)) *ℤ (k (suc j) -ℤ g j)) ≤ c * denominator)
    (back : (j : ℕ) → OnLine n j → unsigned_abs ((pos denominator *ℤ x j -ℤ pos denominator *ℤ g j) +ℤ pos (pivot n j) *ℤ x (j + 1)) ≤ c * denominator)
    (small : (j : ℕ) → suc j ≤ n → 5 * unsigned_abs ((k (suc j) -ℤ g j) -ℤ x (suc j + 1)) ≤ denominator) where
  -- with x₀ before row j + 1
  row_at : (j : ℕ) → OnLine n (suc j) → (x₀ : ℤ) → unsigned_abs ((pos denominator *ℤ x₀ -ℤ pos denominator *ℤ g j) +ℤ pos (pivot n j) *ℤ x (suc j)) ≤ c * denominator →
      unsigned_abs (((x₀ +ℤ pos (diagonal n (suc j)) *ℤ x (suc j)) +ℤ x (suc j + 1)) -ℤ k (suc j)) ≤ 12 * c
  row_at j on x₀ before =
      row c (diagonal n (suc j)) (pivot n (suc j)) (pivot n j) (divisor n j) (rest n j) (k (suc j)) (g (suc j)) (g j) (x (suc j)) x₀ (x (suc j + 1)) some
      (divisor_is n j) (divisor_high n j) (rest_is n j) (rest_high n j) (forth j (omega arith)) (back (suc j) on) before (small j (omega arith))

  before_first : unsigned_abs ((pos denominator *ℤ pos 0 -ℤ pos denominator *ℤ g 0) +ℤ pos (pivot n 0) *ℤ x 1) ≤ c * denominator
  unfolding pivot
  before_first = rw start (nothing denominator (x 1) (c * denominator))

  pub rows_near : (j : ℕ) → OnLine n j → unsigned_abs (sum_at n x j -ℤ k j) ≤ 12 * c
  rows_near zero on = absurd (omega arith)
  rows_near (suc zero) on = rw (first_sum n x two) (row_at 0 on (pos 0) before_first)
  rows_near (suc (suc i)) on = rw (later_sum n x end i on) (row_at (suc i) on (x (suc i)) (rw (add-one (suc i)) at (back (suc i) (omega arith))))
