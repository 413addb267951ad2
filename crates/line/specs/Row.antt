-- What a row of the line keeps after both sweeps: only the roundings of its own two steps, of one step beside it, and of its pivot.
use Rattle.std.specs.Prelude.{◌≡◌, ℕ, ◌+◌, ◌*◌, ◌≤◌, ℤ, pos, ◌+ℤ◌, ◌-ℤ◌, ◌*ℤ◌, unsigned_abs}
use Rattle.std.proofs.Common.{arith, sym, ◌∙◌}
use Rattle.std.proofs.Math.Path.{ap}
use Rattle.std.proofs.lemmas.Int.{ints, unsigned_abs-mul}
use Rattle.std.proofs.lemmas.Nat.{mul-le}
use Rattle.line.specs.FixedPoint.{denominator}
use Rattle.line.specs.Ring.{*-sub}
use Rattle.line.specs.Products.{together, pos-*, pos_add-*, *-left_comm}

-- products stand as plain numbers here: f is the defect of the row before, h that of the row's own two steps, times its divisor
gathered : (u v y dx wx dwy δy : ℤ) → dx +ℤ wx ≡ pos denominator *ℤ v → dwy +ℤ δy ≡ pos (denominator * denominator) *ℤ y →
    pos (denominator * denominator) *ℤ ((u +ℤ v) -ℤ y) ≡ (pos denominator *ℤ (pos denominator *ℤ u +ℤ wx) +ℤ (pos denominator *ℤ dx -ℤ dwy)) -ℤ δy
gathered u v y dx wx dwy δy a b = omega (arith, ints)

within : (c : ℕ) (s f h d : ℤ) → pos (denominator * denominator) *ℤ s ≡ (pos denominator *ℤ f +ℤ h) -ℤ d → 1 ≤ c → unsigned_abs f ≤ c * denominator → unsigned_abs h ≤ 10 * c * (denominator * denominator) → unsigned_abs d ≤ denominator * denominator → unsigned_abs s ≤ 12 * c
within c s f h d e one p q r = omega (arith, ints)

-- the row's own two steps together
own_steps : (c : ℕ) (qx qg wk wx : ℤ) → unsigned_abs (qg -ℤ wk) ≤ c * denominator → unsigned_abs ((qx -ℤ qg) +ℤ wx) ≤ c * denominator → unsigned_abs (qx -ℤ (wk -ℤ wx)) ≤ 2 * c * denominator
own_steps c qx qg wk wx p q = omega (arith, ints)

-- D = d denominator - w₀ is the divisor of the row's pivot w, and δ what the division leaves. k stands for 6 S k j.
module _ (c d w w₀ D δ : ℕ) (k g g₀ x x₀ x₂ : ℤ) (some : 1 ≤ c)
    (divisor : D + w₀ ≡ d * denominator) (high : D ≤ 5 * denominator) (quotient : w * D + δ ≡ denominator * denominator) (left : δ ≤ 5 * denominator)
    (forth : unsigned_abs (pos denominator *ℤ g -ℤ pos w *ℤ (k -ℤ g₀)) ≤ c * denominator)
    (back : unsigned_abs ((pos denominator *ℤ x -ℤ pos denominator *ℤ g) +ℤ pos w *ℤ x₂) ≤ c * denominator)
    (before : unsigned_abs ((pos denominator *ℤ x₀ -ℤ pos denominator *ℤ g₀) +ℤ pos w₀ *ℤ x) ≤ c * denominator)
    (small : 5 * unsigned_abs ((k -ℤ g₀) -ℤ x₂) ≤ denominator) where
  y : ℤ
  y = (k -ℤ g₀) -ℤ x₂

  defect : ℤ
  defect = pos denominator *ℤ x -ℤ pos w *ℤ y

  defect_small : unsigned_abs defect ≤ 2 * c * denominator
  unfolding defect y
  defect_small = rw (*-sub (pos w) (k -ℤ g₀) x₂) (own_steps c (pos denominator *ℤ x) (pos denominator *ℤ g) (pos w *ℤ (k -ℤ g₀)) (pos w *ℤ x₂) forth back)

  y_small : 5 * unsigned_abs y ≤ denominator
  unfolding y
  y_small = small

  x_part : pos D *ℤ x +ℤ pos w₀ *ℤ x ≡ pos denominator *ℤ (pos d *ℤ x)
  x_part = sym (pos_add-* D w₀ x) ∙ ap (λ (m : ℕ). pos m *ℤ x) divisor ∙ pos-* d denominator x ∙ *-left_comm (pos d) (pos denominator) x

  y_part : pos D *ℤ (pos w *ℤ y) +ℤ pos δ *ℤ y ≡ pos (denominator * denominator) *ℤ y
  y_part = ap (◌+ℤ (pos δ *ℤ y)) (together D w (w * D) y (omega arith)) ∙ sym (pos_add-* (w * D) δ y) ∙ ap (λ (m : ℕ). pos m *ℤ y) quotient

  defect_times : pos D *ℤ defect ≡ pos denominator *ℤ (pos D *ℤ x) -ℤ pos D *ℤ (pos w *ℤ y)
  unfolding defect
  defect_times = *-sub (pos D) (pos denominator *ℤ x) (pos w *ℤ y) ∙ ap (λ v. v -ℤ pos D *ℤ (pos w *ℤ y)) (*-left_comm (pos D) (pos denominator) x)

  row_sum : ((x₀ +ℤ pos d *ℤ x) +ℤ x₂) -ℤ k ≡ ((x₀ -ℤ g₀) +ℤ pos d *ℤ x) -ℤ y
  unfolding y
  row_sum = omega (arith, ints)

  pub row : unsigned_abs (((x₀ +ℤ pos d *ℤ x) +ℤ x₂) -ℤ k) ≤ 12 * c
  row =
      rw row_sum
      (within c (((x₀ -ℤ g₀) +ℤ pos d *ℤ x) -ℤ y) (pos denominator *ℤ (x₀ -ℤ g₀) +ℤ pos w₀ *ℤ x) (pos D *ℤ defect) (pos δ *ℤ y)
      (gathered (x₀ -ℤ g₀) (pos d *ℤ x) y (pos D *ℤ x) (pos w₀ *ℤ x) (pos D *ℤ (pos w *ℤ y)) (pos δ *ℤ y) x_part y_part ∙ ap (λ v. (pos denominator *ℤ (pos denominator *ℤ (x₀ -ℤ g₀) +ℤ pos w₀ *ℤ x) +ℤ v) -ℤ pos δ *ℤ y) (sym defect_times))
      some
      (rw (*-sub (pos denominator) x₀ g₀) before)
      (rw (unsigned_abs-mul (pos D) defect) (omega (arith, mul-le D (unsigned_abs defect) (5 * denominator) (2 * c * denominator) high defect_small)))
      (rw (unsigned_abs-mul (pos δ) y) (omega (arith, mul-le δ (unsigned_abs y) (5 * denominator) (unsigned_abs y) left (omega arith), y_small))))
