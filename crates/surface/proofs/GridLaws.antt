-- The laws of grids, for any rule of ends, and those of readings.
use Rattle.std.proofs.Common.{ℕ, ◌*◌, ◌≤◌, sym, refl, ◌∙◌, arith}
use Rattle.line.specs.Line.{Sums, sum_at}
use Rattle.line.specs.Laws.{Dominant, Solvable}
use Rattle.line.specs.Linear.{Crosses}
use Rattle.line.proofs.Doubled.{doubled}
use Rattle.surface.specs.Surface.{patch_sum}
use Rattle.surface.specs.Laws.{OfGrids, SomeGrid, OneGrid, RowsThenColumn, ColumnsThenRow, ReadsNear, ReadsSample}
use Rattle.surface.proofs.Grids as Grids
use Rattle.surface.proofs.Readings.{reading_near, sample_near, patch_on_sample}

-- For a rule of ends that is dominant at every length from 2 on; solvable for the first law, and crossing any linear number for the last two.
module _ {ends : ℕ → Sums} (rule : (n : ℕ) → 2 ≤ n → Dominant n (ends n)) where
  pub some_grid : ((n : ℕ) → 2 ≤ n → Solvable n (ends n)) → OfGrids (SomeGrid ends)
  some_grid some rows columns h k sample =
      let (d, above, solve) = Grids.some_grid (rule rows h) (rule columns k) (some rows h) (some columns k) in
      ((solve sample).0, d, record { above = above; through = (solve sample).1 })

  pub one_grid : OfGrids (OneGrid ends)
  one_grid rows columns h k sample x y c d p q = Grids.one_grid (rule rows h) (rule columns k) x y c d sample p.through q.through

  pub rows_then_column : ((n s : ℕ) → Crosses (λ x. ends n x s)) → OfGrids (RowsThenColumn ends)
  rows_then_column crossing rows columns h k sample half x d s g₁ g₂ control exact on first second r on_r =
      omega (arith, Grids.fitted_near (rule rows h) (rule columns k) (crossing columns) x sample half d s g₁ g₂ control exact.through on first second r on_r)

  pub columns_then_row : ((n s : ℕ) → Crosses (λ x. ends n x s)) → OfGrids (ColumnsThenRow ends)
  columns_then_row crossing rows columns h k sample half x d r g₁ g₂ control exact on first =
      Grids.fitted_near (rule columns k) (rule rows h) (crossing rows) (λ s i. x i s) (λ s i. sample i s) (λ s i. half i s) d r g₁ g₂ control
      (λ s i on_s on_i. sym (Grids.turned (rule rows h) (crossing columns) x i s) ∙ exact.through i s on_i on_s) on (λ s i on_s on_i. first i s on_i on_s)

pub doubled_rule : (n : ℕ) → 2 ≤ n → Dominant n (sum_at n)
doubled_rule n h = doubled n

pub reads_near : ReadsNear
reads_near rows columns control x d u v m reading near = reading_near rows columns control x d u v m reading (λ a b on_a on_b. near a b (omega arith) (omega arith))

pub reads_sample : ReadsSample
reads_sample rows columns control r s g p reading on_r on_s near rounds =
    omega (
      arith,
      sample_near (sum_at rows (λ i. sum_at columns (control i) s) r) (patch_sum rows columns control (32 * r) (32 * s)) reading p g
          (patch_on_sample rows columns control (32 * r) (32 * s) r s refl refl on_r on_s) near rounds,
    )
