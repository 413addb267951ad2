-- Sums of weighed numbers stay within 64 bits.
use Rattle.std.proofs.Common.{◌≡◌, ℕ, zero, suc, ◌*◌, ◌%◌, ◌^◌, ◌<◌, ◌≤◌, Bool, true, cond, leb, List, [], ◌∷◌, get_or, ℤ, pos, ◌+ℤ◌, ◌*ℤ◌, nat_abs, Some, None, sym, ap, ◌∙◌, mul-le-mul, arith, w32, w64, SFits, to_z, of_z}
use lib.Signed.{mag}
use Rattle.std.proofs.lemmas.Int.{ints, to_z-of_z, unsigned_abs-mul, fits_signed_from_abs}
use Rattle.std.proofs.lemmas.Bool.{leb-true}
use Rattle.line.proofs.Casts.{same64}
use Rattle.surface.specs.Surface.{weight, rounded}
use Rattle.surface.specs.Products.{Low, products, products_of}
use Rattle.surface.specs.Patch.{reach, all_below, within_reach, weights_at, point, sum_around, patch_reading}
use Rattle.surface.proofs.Below.{at_below}
use Rattle.surface.proofs.Readings.{blend_rows}

-- a product, as the code computes it
module _ (w n : ℤ) (w_low : nat_abs w ≤ 131072) (n_low : nat_abs n ≤ 8388608000000) where
  product_low : nat_abs (w *ℤ n) ≤ 1099511627776000000
  product_low = omega (arith, unsigned_abs-mul w n, mul-le-mul w_low n_low)

  factors : to_z w64 (of_z w64 w) *ℤ to_z w64 (of_z w64 n) ≡ w *ℤ n
  factors =
      let p : to_z w64 (of_z w64 w) ≡ w = same64 w (omega arith) in
      let q : to_z w64 (of_z w64 n) ≡ n = same64 n (omega arith) in
      rw (p, q)

  pub product_fits : SFits w64 (to_z w64 (of_z w64 w) *ℤ to_z w64 (of_z w64 n))
  product_fits = rw factors (fits_signed_from_abs w64 (w *ℤ n) (omega (arith, product_low)))

  pub product_is : to_z w64 (of_z w64 (to_z w64 (of_z w64 w) *ℤ to_z w64 (of_z w64 n))) ≡ w *ℤ n
  product_is = rw factors (same64 (w *ℤ n) (omega (arith, product_low)))

  pub product_within : nat_abs (to_z w64 (of_z w64 (to_z w64 (of_z w64 w) *ℤ to_z w64 (of_z w64 n)))) ≤ 1099511627776000000
  product_within = rw product_is product_low

-- four numbers within a bound, each times a weight
pub products_low : (w n : List ℤ) (m : ℕ) → Low 131072 w → Low m n → nat_abs (products w n) ≤ 4 * (131072 * m)
products_low w n m w_low n_low = together (at 0) (at 1) (at 2) (at 3) (131072 * m) (each 0 (omega arith)) (each 1 (omega arith)) (each 2 (omega arith)) (each 3 (omega arith))
  where
    at : ℕ → ℤ
    at b = get_or w b (pos 0) *ℤ get_or n b (pos 0)

    each : (b : ℕ) → b < 4 → nat_abs (at b) ≤ 131072 * m
    each b h = rw (unsigned_abs-mul (get_or w b (pos 0)) (get_or n b (pos 0))) (mul-le-mul (w_low b h) (n_low b h))

    together : (a b c d : ℤ) (k : ℕ) → nat_abs a ≤ k → nat_abs b ≤ k → nat_abs c ≤ k → nat_abs d ≤ k → nat_abs (((a +ℤ b) +ℤ c) +ℤ d) ≤ 4 * k
    together a b c d k p q r s = omega (arith, ints)

-- a number in the code, by a bound
pub kept : (z : ℤ) → nat_abs z ≤ 8388608000000 → nat_abs (to_z w64 (of_z w64 z)) ≤ 8388608000000
kept z h = rw (same64 z (omega arith)) h

pub kept_weight : (z : ℤ) → nat_abs z ≤ 131072 → nat_abs (to_z w64 (of_z w64 z)) ≤ 131072
kept_weight z h = rw (same64 z (omega arith)) h

pub kept_four : (a b c d : ℤ) → nat_abs a ≤ 8388608000000 → nat_abs b ≤ 8388608000000 → nat_abs c ≤ 8388608000000 → nat_abs d ≤ 8388608000000 →
    Low 8388608000000 (to_z w64 (of_z w64 a) ∷ to_z w64 (of_z w64 b) ∷ to_z w64 (of_z w64 c) ∷ to_z w64 (of_z w64 d) ∷ [])
kept_four a b c d p q r s zero h = kept a p
kept_four a b c d p q r s (suc zero) h = kept b q
kept_four a b c d p q r s (suc (suc zero)) h = kept c r
kept_four a b c d p q r s (suc (suc (suc zero))) h = kept d s
kept_four a b c d p q r s (suc (suc (suc (suc i)))) h = absurd (omega arith)

-- the points of each row, where all are within reach
pub row_low : (rows : List (List ℤ)) → within_reach (point rows) ≡ true → (a : ℕ) → a < 4 → Low reach (get_or rows a [])
row_low rows within a high b wide =
    leb-true (nat_abs (point rows a b)) reach (at_below 4 (λ b. leb (nat_abs (point rows a b)) reach) (at_below 4 (λ a. all_below 4 (λ b. leb (nat_abs (point rows a b)) reach)) within a high) b wide)

-- the reading, as the code computes it
pub sum_is : (x y : ℕ) (c : List (List ℤ)) → products_of (weights_at x) (λ a. products (weights_at y) (get_or c a [])) ≡ sum_around (point c) x y
sum_is x y c = sym (blend_rows (λ a. weight a (x % 32)) (λ b. weight b (y % 32)) (point c))

module _ (x y : ℕ) (rows : List (List ℤ)) (sum reading : ℤ) (sum_fits : mag sum < 2 ^ 63) (reading_fits : mag reading < 2 ^ 31) where
  pub reading_is : within_reach (point rows) ≡ true → sum ≡ products_of (weights_at x) (λ a. products (weights_at y) (get_or rows a [])) →
      reading ≡ rounded (to_z w64 (of_z w64 sum)) → Some (to_z w32 (of_z w32 reading)) ≡ patch_reading rows x y
  reading_is within is rounds =
      let around : to_z w64 (of_z w64 sum) ≡ sum_around (point rows) x y = to_z-of_z w64 sum (record { sfits = sum_fits }) ∙ is ∙ sum_is x y rows in
      let value : to_z w32 (of_z w32 reading) ≡ rounded (sum_around (point rows) x y) = to_z-of_z w32 reading (record { sfits = reading_fits }) ∙ rounds ∙ ap rounded around in
      ap Some value ∙ sym (ap (λ (b : Bool). cond b (Some (rounded (sum_around (point rows) x y))) None) within)
