-- A reading is near the surface if its control points are near.
use Rattle.std.proofs.Common.{◌≡◌, ℕ, ◌+◌, ◌-◌, ◌*◌, ◌/◌, ◌%◌, ◌^◌, ◌<◌, ◌≤◌, ℤ, pos, ◌+ℤ◌, ◌-ℤ◌, ◌*ℤ◌, nat_abs, sym, refl, ap, ◌∙◌, subst, mul-le-mul_left, arith}
use lib.IntN.{+ℤ_idl}
use mathlib.Core.Path.{fun_ext}
use Rattle.std.proofs.lemmas.Int.{ints}
use Rattle.line.specs.Line.{OnLine, clamped, sum_at}
use Rattle.line.specs.Products.{together, abs_scaled}
use Rattle.line.proofs.Rules.{along}
use Rattle.line.specs.Doubled.{doubled_crosses}
use Rattle.line.proofs.Doubled.{doubled}
use Rattle.surface.specs.Surface.{weight, line_around, four, blend, patch_sum, F, Near}
use Rattle.surface.proofs.Grids.{turned}
use Rattle.surface.proofs.Weighted.{total, weighted, weighted_factor, weighted_near}
use Rattle.surface.proofs.Weights.{weights_total}

four_is : (w : ℕ → ℕ) (c : ℕ → ℤ) → four (λ b. pos (w b) *ℤ c b) ≡ weighted 4 w c
four_is w c = rw +ℤ_idl refl

-- sixteen points are four times four
pub blend_is : (u v : ℕ → ℕ) (c : ℕ → ℕ → ℤ) → blend u v c ≡ weighted 4 u (λ a. weighted 4 v (c a))
blend_is u v c = ap four (fun_ext (λ a. four_is (λ b. u a * v b) (c a) ∙ weighted_factor 4 (u a) v (c a))) ∙ four_is u (λ a. weighted 4 v (c a))

-- as the code sums them: first within each row, then over the rows
pub blend_rows : (u v : ℕ → ℕ) (c : ℕ → ℕ → ℤ) → blend u v c ≡ four (λ a. pos (u a) *ℤ four (λ b. pos (v b) *ℤ c a b))
blend_rows u v c = blend_is u v c ∙ sym (ap (λ f. four (λ a. pos (u a) *ℤ f a)) (fun_ext (λ a. four_is v (c a))) ∙ four_is u (λ a. weighted 4 v (c a)))

pub blend_near : (u v : ℕ → ℕ) (c n : ℕ → ℕ → ℤ) (k d m : ℕ) → ((a b : ℕ) → a < 4 → b < 4 → k * nat_abs (pos d *ℤ c a b -ℤ n a b) ≤ m) →
    k * nat_abs (pos d *ℤ blend u v c -ℤ blend u v n) ≤ total 4 u * (total 4 v * m)
blend_near u v c n k d m h =
    rw (blend_is u v c, blend_is u v n)
    (weighted_near 4 u (λ a. weighted 4 v (c a)) (λ a. weighted 4 v (n a)) k d (total 4 v * m) (λ a on_a. weighted_near 4 v (c a) (n a) k d m (λ b on_b. h a b on_a on_b)))

-- A sum rounded to a multiple of f, and near another sum over d: so is the multiple.
multiple_near : (f d m : ℕ) (reading c n : ℤ) → 2 * nat_abs (pos f *ℤ reading -ℤ c) ≤ f → 2 * nat_abs (pos d *ℤ c -ℤ n) ≤ f * (m * d) →
    2 * nat_abs (pos (f * d) *ℤ reading -ℤ n) ≤ (m + 1) * (f * d)
multiple_near f d m reading c n h k =
    omega (arith, ints, together d f (f * d) reading (omega arith), abs_scaled d (pos f *ℤ reading) c, mul-le-mul_left d h)

-- a reading rounded from c, if c is near n by weights of the right sums
pub read_near : (u v : ℕ → ℕ) → total 4 u ≡ 196608 → total 4 v ≡ 196608 → (c n reading : ℤ) (d m : ℕ) →
    2 * nat_abs (pos d *ℤ c -ℤ n) ≤ total 4 u * (total 4 v * (m * d)) → 2 * nat_abs (pos F *ℤ reading -ℤ c) ≤ F → 2 * nat_abs (pos (F * d) *ℤ reading -ℤ n) ≤ (m + 1) * (F * d)
read_near u v p q c n reading d m h k =
    let near : 2 * nat_abs (pos d *ℤ c -ℤ n) ≤ 196608 * (196608 * (m * d)) = rw (p, q) at h in
    multiple_near F d m reading c n k (omega arith)

pub reading_near : (rows columns : ℕ) (c n : ℕ → ℕ → ℤ) (d x y m : ℕ) (reading : ℤ) →
    ((a b : ℕ) → a < 4 → b < 4 → 2 * nat_abs (pos d *ℤ c (line_around rows x a) (line_around columns y b) -ℤ n (line_around rows x a) (line_around columns y b)) ≤ m * d) →
    2 * nat_abs (pos F *ℤ reading -ℤ patch_sum rows columns c x y) ≤ F → Near rows columns n d x y reading (m + 1)
reading_near rows columns c n d x y m reading h =
    read_near (λ a. weight a (x % 32)) (λ b. weight b (y % 32)) (weights_total (x % 32) (omega arith)) (weights_total (y % 32) (omega arith)) (patch_sum rows columns c x y) (patch_sum rows columns n x y) reading d m
    (blend_near (λ a. weight a (x % 32)) (λ b. weight b (y % 32)) (λ a b. c (line_around rows x a) (line_around columns y b)) (λ a b. n (line_around rows x a) (line_around columns y b)) 2 d (m * d) h)

-- on a grid place the four weights are those of the sum
row_on_sample : (n x j : ℕ) (z : ℕ → ℤ) → x ≡ 32 * j → OnLine n j → weighted 4 (λ a. weight a (x % 32)) (λ a. z (line_around n x a)) ≡ pos 32768 *ℤ sum_at n z j
row_on_sample n x j z e on =
    let rest : x % 32 ≡ 0 = omega arith in
    let whole : x / 32 ≡ j = omega arith in
    let before : clamped n (j + 0 - 1) ≡ clamped n (j - 1) = omega arith in
    let here : clamped n (j + 1 - 1) ≡ j = omega arith in
    let after : clamped n (j + 2 - 1) ≡ clamped n (j + 1) = omega arith in
    rw (rest, whole) (rw (before, here, after) (omega (arith, ints)))

pub patch_on_sample : (rows columns : ℕ) (c : ℕ → ℕ → ℤ) (x y r s : ℕ) → x ≡ 32 * r → y ≡ 32 * s → OnLine rows r → OnLine columns s →
    patch_sum rows columns c x y ≡ pos (2 ^ 30) *ℤ sum_at rows (λ i. sum_at columns (c i) s) r
patch_on_sample rows columns c x y r s at_x at_y on_r on_s =
    blend_is (λ a. weight a (x % 32)) (λ b. weight b (y % 32)) (λ a b. c (line_around rows x a) (line_around columns y b)) ∙
    ap (weighted 4 (λ a. weight a (x % 32))) (fun_ext (λ a. row_on_sample columns y s (c (line_around rows x a)) at_y on_s)) ∙
    row_on_sample rows x r (λ i. pos 32768 *ℤ sum_at columns (c i) s) at_x on_r ∙
    ap (◌*ℤ◌ (pos 32768)) ((along (doubled rows) r).scales (pos 32768) (λ i. sum_at columns (c i) s)) ∙
    together 32768 32768 (2 ^ 30) (sum_at rows (λ i. sum_at columns (c i) s) r) refl

-- Control points whose sums are within 6 g of the sample read within g / 6 of it, and the rounding.
pub sample_near : (sums patch reading p : ℤ) (g : ℕ) → patch ≡ pos (2 ^ 30) *ℤ sums → nat_abs (sums -ℤ pos 576 *ℤ p) ≤ 6 * g → 2 * nat_abs (pos F *ℤ reading -ℤ patch) ≤ F →
    6 * nat_abs (reading -ℤ pos 16 *ℤ p) ≤ g + 3
sample_near sums patch reading p g e h k = omega (arith, ints)

three : ℤ → ℤ → ℤ → ℤ
three a b c = (a +ℤ pos 4 *ℤ b) +ℤ c

three_within : (a b c : ℤ) (g : ℕ) → nat_abs a ≤ g → nat_abs b ≤ g → nat_abs c ≤ g → nat_abs (three a b c) ≤ 6 * g
unfolding three
three_within a b c g h i j = omega (arith, ints)

three_apart : (a b c a' b' c' : ℤ) → three (a -ℤ pos 6 *ℤ a') (b -ℤ pos 6 *ℤ b') (c -ℤ pos 6 *ℤ c') ≡ three a b c -ℤ pos 6 *ℤ three a' b' c'
unfolding three
three_apart a b c a' b' c' = omega (arith, ints)

onward : (s s' p : ℤ) (g₁ g₂ : ℕ) → nat_abs (s -ℤ pos 6 *ℤ s') ≤ 6 * g₂ → nat_abs (s' -ℤ pos 96 *ℤ p) ≤ g₁ → nat_abs (s -ℤ pos 576 *ℤ p) ≤ 6 * (g₁ + g₂)
onward s s' p g₁ g₂ h k = omega (arith, ints)

three_near : (a b c a' b' c' p : ℤ) (g₁ g₂ : ℕ) → nat_abs (a -ℤ pos 6 *ℤ a') ≤ g₂ → nat_abs (b -ℤ pos 6 *ℤ b') ≤ g₂ → nat_abs (c -ℤ pos 6 *ℤ c') ≤ g₂ →
    nat_abs (three a' b' c' -ℤ pos 96 *ℤ p) ≤ g₁ → nat_abs (three a b c -ℤ pos 576 *ℤ p) ≤ 6 * (g₁ + g₂)
three_near a b c a' b' c' p g₁ g₂ h i j =
    onward (three a b c) (three a' b' c') p g₁ g₂ (rw three_apart at (three_within (a -ℤ pos 6 *ℤ a') (b -ℤ pos 6 *ℤ b') (c -ℤ pos 6 *ℤ c') g₂ h i j))

-- Half points within g₁ at the place, and the three columns around it within g₂ of the half points.
pub sums_near : (rows columns : ℕ) (c half : ℕ → ℕ → ℤ) (r s g₁ g₂ : ℕ) (p : ℤ) → OnLine columns s → nat_abs (sum_at columns (half r) s -ℤ pos 96 *ℤ p) ≤ g₁ →
    ((b : ℕ) → b < 3 → nat_abs (sum_at rows (λ i. c i (clamped columns (s + b - 1))) r -ℤ pos 6 *ℤ half r (clamped columns (s + b - 1))) ≤ g₂) →
    nat_abs (sum_at rows (λ i. sum_at columns (c i) s) r -ℤ pos 576 *ℤ p) ≤ 6 * (g₁ + g₂)
unfolding three
sums_near rows columns c half r s g₁ g₂ p on h k =
    rw (turned (doubled rows) (doubled_crosses columns) c r s)
    (three_near (z before) (z s) (z after) (half r before) (half r s) (half r after) p g₁ g₂ (at 0 before (omega arith) (omega arith)) (at 1 s (omega arith) (omega arith)) (at 2 after (omega arith) (omega arith)) h)
  where
    before : ℕ
    before = clamped columns (s - 1)

    after : ℕ
    after = clamped columns (s + 1)

    z : ℕ → ℤ
    z t = sum_at rows (λ i. c i t) r

    at : (b t : ℕ) → b < 3 → clamped columns (s + b - 1) ≡ t → nat_abs (z t -ℤ pos 6 *ℤ half r t) ≤ g₂
    at b t l e = subst (λ (t : ℕ). nat_abs (z t -ℤ pos 6 *ℤ half r t) ≤ g₂) e (k b l)
