-- Two rules on a grid, one along its columns (down) and one along its rows (across): one exact grid in fractions, and how near fitted points come to it.
use Rattle.std.proofs.Common.{◌≡◌, ℕ, ◌+◌, ◌*◌, ◌<◌, ◌≤◌, ℤ, pos, ◌-ℤ◌, ◌*ℤ◌, nat_abs, sym, refl, ap, ◌∙◌, mul-pos, arith}
use mathlib.Core.Path.{fun_ext}
use Rattle.std.proofs.lemmas.Int.{ints}
use Rattle.line.specs.Line.{OnLine, Sums}
use Rattle.line.specs.Laws.{Dominant, Solvable}
use Rattle.line.specs.Products.{together, times_within}
use Rattle.line.specs.Linear.{Crosses}
use Rattle.line.proofs.Rules.{along, near, same}
use Rattle.surface.specs.Surface.{Through}

module _ {rows columns : ℕ} {down across : Sums} (vertical : Dominant rows down) (horizontal : Dominant columns across) where
  -- a factor comes out of both sums
  scaled : (c : ℤ) (x : ℕ → ℕ → ℤ) (r s : ℕ) → down (λ i. across (λ t. c *ℤ x i t) s) r ≡ c *ℤ down (λ i. across (x i) s) r
  scaled c x r s = ap (λ f. down f r) (fun_ext (λ i. (along horizontal s).scales c (x i))) ∙ (along vertical r).scales c (λ i. across (x i) s)

  pub same_grid : (x y : ℕ → ℕ → ℤ) → ((r s : ℕ) → OnLine rows r → OnLine columns s → down (λ i. across (x i) s) r ≡ down (λ i. across (y i) s) r) →
      (r s : ℕ) → OnLine rows r → OnLine columns s → x r s ≡ y r s
  same_grid x y e r s on_r on_s =
      same horizontal (x r) (y r) (λ t on_t. same vertical (λ i. across (x i) t) (λ i. across (y i) t) (λ q on_q. e q t on_q on_t) r on_r) s on_s

  pub one_grid : (x y : ℕ → ℕ → ℤ) (c d : ℕ) (sample : ℕ → ℕ → ℤ) → Through rows columns down across x c sample → Through rows columns down across y d sample →
      (r s : ℕ) → OnLine rows r → OnLine columns s → pos d *ℤ x r s ≡ pos c *ℤ y r s
  one_grid x y c d sample p q =
      same_grid (λ i t. pos d *ℤ x i t) (λ i t. pos c *ℤ y i t) (λ r s on_r on_s. part x c p d r s on_r on_s ∙ sym (part y d q c r s on_r on_s ∙ ap (λ (n : ℕ). pos n *ℤ sample r s) (omega arith)))
    where
      part : (x : ℕ → ℕ → ℤ) (c : ℕ) → Through rows columns down across x c sample → (d r s : ℕ) → OnLine rows r → OnLine columns s →
          down (λ i. across (λ t. pos d *ℤ x i t) s) r ≡ pos (d * (36 * 16 * c)) *ℤ sample r s
      part x c p d r s on_r on_s = scaled (pos d) x r s ∙ ap (◌*ℤ◌ (pos d)) (p r s on_r on_s) ∙ together d (36 * 16 * c) (d * (36 * 16 * c)) (sample r s) refl

  pub some_grid : Solvable rows down → Solvable columns across → (d : ℕ) × (0 < d) × ((sample : ℕ → ℕ → ℤ) → (x : ℕ → ℕ → ℤ) × Through rows columns down across x d sample)
  some_grid (c, solve_down) (d, solve_across) =
      (c * d, mul-pos (solve_down (λ i. pos 0)).1.above (solve_across (λ i. pos 0)).1.above, λ sample. (x sample, through sample))
    where
      half : (ℕ → ℕ → ℤ) → ℕ → ℕ → ℤ
      half sample s = (solve_down (λ r. pos 16 *ℤ sample r s)).0

      x : (ℕ → ℕ → ℤ) → ℕ → ℕ → ℤ
      x sample i = (solve_across (λ s. half sample s i)).0

      through : (sample : ℕ → ℕ → ℤ) → Through rows columns down across (x sample) (c * d) sample
      through sample r s on_r on_s =
          ap (λ f. down f r) (fun_ext (λ i. (solve_across (λ t. half sample t i)).1.solves s on_s)) ∙ (along vertical r).scales (pos (6 * d)) (half sample s) ∙
          ap (◌*ℤ◌ (pos (6 * d))) ((solve_down (λ q. pos 16 *ℤ sample q s)).1.solves r on_r ∙ together (6 * c) 16 (96 * c) (sample r s) (omega arith)) ∙
          together (6 * d) (96 * c) (36 * 16 * (c * d)) (sample r s) (omega arith)

-- The order of the sums does not matter.
module _ {rows : ℕ} {down across : Sums} (vertical : Dominant rows down) (crossing : (s : ℕ) → Crosses (λ x. across x s)) where
  pub turned : (x : ℕ → ℕ → ℤ) (r s : ℕ) → down (λ i. across (x i) s) r ≡ across (λ t. down (λ i. x i t) r) s
  turned x r s = (crossing s).over (λ z. down z r) (along vertical r) x

-- Half points within g₁ of the samples along every row, and a column c within g₂ of the half points: the column is near every exact grid.
module _ {rows columns : ℕ} {down across : Sums} (vertical : Dominant rows down) (horizontal : Dominant columns across) (crossing : (s : ℕ) → Crosses (λ x. across x s)) where
  pub fitted_near : (x sample half : ℕ → ℕ → ℤ) (d s g₁ g₂ : ℕ) (c : ℕ → ℤ) → Through rows columns down across x d sample → OnLine columns s →
      ((r t : ℕ) → OnLine rows r → OnLine columns t → nat_abs (across (half r) t -ℤ pos 96 *ℤ sample r t) ≤ g₁) →
      ((r : ℕ) → OnLine rows r → nat_abs (down c r -ℤ pos 6 *ℤ half r s) ≤ g₂) →
      (r : ℕ) → OnLine rows r → 2 * nat_abs (pos d *ℤ c r -ℤ x r s) ≤ (g₂ + 3 * g₁) * d
  fitted_near x sample half d s g₁ g₂ c through on_s first second =
      near vertical (λ i. pos d *ℤ c i) (λ i. x i s) ((g₂ + 3 * g₁) * d) (λ r on_r. rw ((along vertical r).scales (pos d) c) (columns_near r on_r))
    where
      exact_half : ℕ → ℕ → ℤ
      exact_half r t = down (λ i. x i t) r

      exact_across : (r t : ℕ) → OnLine rows r → OnLine columns t → across (exact_half r) t ≡ pos (6 * d) *ℤ (pos 96 *ℤ sample r t)
      exact_across r t on_r on_t = sym (turned vertical crossing x r t) ∙ through r t on_r on_t ∙ sym (together (6 * d) 96 (36 * 16 * d) (sample r t) (omega arith))

      half_near : (r : ℕ) → OnLine rows r → 2 * nat_abs (pos (6 * d) *ℤ half r s -ℤ exact_half r s) ≤ 6 * d * g₁
      half_near r on_r =
          near horizontal (λ t. pos (6 * d) *ℤ half r t) (exact_half r) (6 * d * g₁)
          (λ t on_t. rw ((along horizontal t).scales (pos (6 * d)) (half r), exact_across r t on_r on_t) (times_within (6 * d) (across (half r) t) (pos 96 *ℤ sample r t) g₁ (first r t on_r on_t))) s on_s

      columns_near : (r : ℕ) → OnLine rows r → nat_abs (pos d *ℤ down c r -ℤ down (λ i. x i s) r) ≤ (g₂ + 3 * g₁) * d
      columns_near r on_r =
          omega (arith, ints, times_within d (down c r) (pos 6 *ℤ half r s) g₂ (second r on_r), together d 6 (6 * d) (half r s) (omega arith), half_near r on_r)
