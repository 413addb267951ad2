-- A solver that rounds a finer line to nearest, m finer units to one, the residuals of the finer line below one unit, is sound with
-- every grade from 3 to 12.
use Rattle.std.specs.Prelude.{◌≡◌, ℕ, ◌-◌, ◌*◌, ◌<◌, ◌≤◌, List, length, ℤ, pos, ◌-ℤ◌, ◌*ℤ◌, unsigned_abs}
use Rattle.std.proofs.Common.{arith, ap, ◌∙◌}
use Rattle.std.proofs.lemmas.List.FromFn.{length-map-range_with_len, get_or-map-range_with_len}
use Rattle.line.specs.Line.{OnLine, place, sum_at}
use Rattle.line.specs.Solver.{Solver, Admitted, Sound}
use Rattle.line.specs.FixedPoint.{nearest, nearest_line}
use Rattle.line.specs.Doubled.{doubled_linear, doubled_six}
use Rattle.line.specs.Fractions.{nearest_half}
use Rattle.line.specs.Rounding.{residual_rounded}

module _ (s : Solver) (m ρ : ℕ) (below : ρ < m) (finer : List ℤ → ℕ → ℤ) (rounds : (k : List ℤ) → s.rule k ≡ nearest_line m (length k) (finer k))
    (close : (k : List ℤ) → Admitted k → (j : ℕ) → OnLine (length k) j → unsigned_abs (sum_at (length k) (finer k) j -ℤ pos (6 * m) *ℤ place k j) ≤ ρ) where
  pub long : (k : List ℤ) → length (s.rule k) ≡ length k
  long k = ap length (rounds k) ∙ length-map-range_with_len (λ j. nearest m (finer k j)) 1 (length k)

  place_rounded : (k : List ℤ) (j : ℕ) → OnLine (length k) j → place (s.rule k) j ≡ nearest m (finer k j)
  place_rounded k j on =
      ap (λ x. place x j) (rounds k) ∙ get_or-map-range_with_len (λ j. nearest m (finer k j)) 1 (length k) (j - 1) j (pos 0) (omega arith) (omega arith)

  pub rounded : (k : List ℤ) (j : ℕ) → OnLine (length k) j → 2 * unsigned_abs (pos m *ℤ place (s.rule k) j -ℤ finer k j) ≤ m
  rounded k j on = rw (place_rounded k j on) (nearest_half m (finer k j) (omega arith))

  pub sound_rounded : 3 ≤ s.grade → s.grade ≤ 12 → Sound s
  sound_rounded low high = record {
    graded = (omega arith, high);
    long = long;
    near = λ k ok j on.
        omega (
          arith,
          residual_rounded (doubled_linear (length k)) (doubled_six (length k)) (place (s.rule k)) (finer k) (place k) m (rounded k) 1 (omega arith) j on
              (omega (arith, close k ok j on)),
        );
  }
