-- A line X in finer units, m to one, and the line x of its numbers rounded to nearest.
use Rattle.std.specs.Prelude.{ℕ, ◌+◌, ◌*◌, ◌<◌, ◌≤◌, ℤ, pos, ◌-ℤ◌, ◌*ℤ◌, unsigned_abs}
use Rattle.std.proofs.Common.{arith}
use Rattle.std.proofs.lemmas.Int.{ints, unsigned_abs-mul}
use Rattle.line.specs.Line.{OnLine, Sums}
use Rattle.line.specs.Products.{together, abs_scaled, cancel-<}
use Rattle.line.specs.Linear.{Linear, subtracts}

-- All weights of a row come to at most 6: a sum is at most six times as great as the line.
abbrev pub SixFold : ℕ → Sums → Type 0
SixFold n sums = (x : ℕ → ℤ) (j g : ℕ) → OnLine n j → ((i : ℕ) → OnLine n i → unsigned_abs (x i) ≤ g) → unsigned_abs (sums x j) ≤ 6 * g

module _ {n : ℕ} {sums : Sums} (along : (j : ℕ) → Linear (λ x. sums x j)) (six : SixFold n sums) (x X k : ℕ → ℤ) (m : ℕ) (rounded : (i : ℕ) → OnLine n i → 2 * unsigned_abs (pos m *ℤ x i -ℤ X i) ≤ m) where
  -- rounding moves a sum by at most 3 units
  sums_rounded : (j : ℕ) → OnLine n j → unsigned_abs (pos m *ℤ sums x j -ℤ sums X j) ≤ 3 * m
  sums_rounded j on =
      let twice = six (λ i. pos 2 *ℤ (pos m *ℤ x i -ℤ X i)) j m on (λ i at. omega (arith, unsigned_abs-mul (pos 2) (pos m *ℤ x i -ℤ X i), rounded i at)) in
      omega (arith, ints, (along j).scales (pos 2) (λ i. pos m *ℤ x i -ℤ X i), subtracts (along j) (λ i. pos m *ℤ x i) X, (along j).scales (pos m) x)

  -- residuals below c units in the finer line are below c + 3 in the rounded one
  pub residual_rounded : (c : ℕ) → 0 < m → (j : ℕ) → OnLine n j → unsigned_abs (sums X j -ℤ pos (6 * m) *ℤ k j) < c * m → unsigned_abs (sums x j -ℤ pos 6 *ℤ k j) < c + 3
  residual_rounded c above j on h =
      cancel-< m (unsigned_abs (sums x j -ℤ pos 6 *ℤ k j)) (c + 3) (omega (arith, ints, sums_rounded j on, abs_scaled m (sums x j) (pos 6 *ℤ k j), together m 6 (6 * m) (k j) (omega arith)))
