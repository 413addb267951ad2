-- The rule of doubled ends is dominant and solvable.
use Rattle.std.specs.Prelude.{◌≡◌, ℕ, zero, suc, ◌+◌, ◌-◌, ◌<◌, ◌≤◌, ℤ, pos, ◌*ℤ◌}
use Rattle.std.proofs.Common.{arith}
use Rattle.std.proofs.lemmas.Int.{ints}
use Rattle.line.specs.Line.{OnLine, clamped, sum_at}
use Rattle.line.specs.Doubled.{doubled_linear}
use Rattle.line.specs.Laws.{Dominant, Solvable}
use Rattle.line.proofs.Rules.{solvable}
use Rattle.line.proofs.Shot.{shot, shot_row}

pub doubled : (n : ℕ) → Dominant n (sum_at n)
doubled n = record {
  adds = λ x y j. (doubled_linear n j).adds x y;
  scales = λ c x j. (doubled_linear n j).scales c x;
  leads = λ x j on top. omega (arith, ints, top (clamped n (j - 1)) (omega arith), top (clamped n (j + 1)) (omega arith));
}

-- with equal first numbers, it has these sums at all places but the last
doubled_row : (n : ℕ) (r : ℕ → ℤ) (u : ℤ) (j : ℕ) → OnLine n j → j < n → sum_at n (shot r u u) j ≡ r j
unfolding shot
doubled_row n r u zero on h = absurd (omega arith)
doubled_row n r u (suc zero) on h = grind arith
doubled_row n r u (suc (suc j)) on h =
    let before : clamped n (suc (suc j) - 1) ≡ suc j = omega arith in
    let after : clamped n (suc (suc j) + 1) ≡ suc (suc (suc j)) = omega arith in
    rw (before, after) (shot_row r u u (suc j))

pub doubled_solvable : (n : ℕ) → 2 ≤ n → Solvable n (sum_at n)
unfolding shot
doubled_solvable n h =
    solvable (doubled n) (shot (λ i. pos 0) (pos 1) (pos 1)) 1 (omega arith) (omega arith) (doubled_row n (λ i. pos 0) (pos 1))
    (λ k. (shot (λ i. pos 6 *ℤ k i) (pos 0) (pos 0), doubled_row n (λ i. pos 6 *ℤ k i) (pos 0)))
