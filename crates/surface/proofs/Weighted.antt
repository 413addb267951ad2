-- Sums of n terms with weights that are not negative.
use Rattle.std.proofs.Common.{◌≡◌, ℕ, zero, suc, ◌+◌, ◌*◌, ◌<◌, ◌≤◌, ℤ, pos, ◌+ℤ◌, ◌-ℤ◌, ◌*ℤ◌, nat_abs, refl, ap, mul-le-mul_left, arith}
use Rattle.std.proofs.lemmas.Int.{ints, unsigned_abs-mul}
use Rattle.line.specs.Ring.{*-add, *-sub}
use Rattle.line.specs.Products.{*-left_comm, pos-*, abs_add}

abbrev pub total : ℕ → (ℕ → ℕ) → ℕ
total zero w = 0
total (suc n) w = total n w + w n

abbrev pub weighted : ℕ → (ℕ → ℕ) → (ℕ → ℤ) → ℤ
weighted zero w v = pos 0
weighted (suc n) w v = weighted n w v +ℤ pos (w n) *ℤ v n

pub weighted_add : (n : ℕ) (w : ℕ → ℕ) (u v : ℕ → ℤ) → weighted n w (λ i. u i +ℤ v i) ≡ weighted n w u +ℤ weighted n w v
weighted_add zero w u v = refl
weighted_add (suc n) w u v = omega (arith, ints, weighted_add n w u v, *-add (pos (w n)) (u n) (v n))

pub weighted_sub : (n : ℕ) (w : ℕ → ℕ) (u v : ℕ → ℤ) → weighted n w (λ i. u i -ℤ v i) ≡ weighted n w u -ℤ weighted n w v
weighted_sub zero w u v = refl
weighted_sub (suc n) w u v = omega (arith, ints, weighted_sub n w u v, *-sub (pos (w n)) (u n) (v n))

pub weighted_scale : (n : ℕ) (w : ℕ → ℕ) (c : ℤ) (v : ℕ → ℤ) → weighted n w (λ i. c *ℤ v i) ≡ c *ℤ weighted n w v
weighted_scale zero w c v = omega (arith, ints)
weighted_scale (suc n) w c v = omega (arith, ints, weighted_scale n w c v, *-add c (weighted n w v) (pos (w n) *ℤ v n), *-left_comm c (pos (w n)) (v n))

-- a common factor of the weights
pub weighted_factor : (n m : ℕ) (w : ℕ → ℕ) (v : ℕ → ℤ) → weighted n (λ i. m * w i) v ≡ pos m *ℤ weighted n w v
weighted_factor zero m w v = omega (arith, ints)
weighted_factor (suc n) m w v = omega (arith, ints, weighted_factor n m w v, *-add (pos m) (weighted n w v) (pos (w n) *ℤ v n), pos-* m (w n) (v n))

-- terms within a bound keep the sum within the weights times the bound; k measures both in finer units
pub weighted_within : (n : ℕ) (w : ℕ → ℕ) (v : ℕ → ℤ) (k m : ℕ) → ((i : ℕ) → i < n → k * nat_abs (v i) ≤ m) → k * nat_abs (weighted n w v) ≤ total n w * m
weighted_within zero w v k m h = omega arith
weighted_within (suc n) w v k m h =
    let before = weighted_within n w v k m (λ i q. h i (omega arith)) in
    let last = mul-le-mul_left (w n) (h n (omega arith)) in
    omega (arith, mul-le-mul_left k (abs_add (weighted n w v) (pos (w n) *ℤ v n)), ap (◌*◌ k) (unsigned_abs-mul (pos (w n)) (v n)))

-- if k times the distance of d * x from y is within m at each term, so it is of the sums, times the weights
pub weighted_near : (n : ℕ) (w : ℕ → ℕ) (x y : ℕ → ℤ) (k d m : ℕ) → ((i : ℕ) → i < n → k * nat_abs (pos d *ℤ x i -ℤ y i) ≤ m) →
    k * nat_abs (pos d *ℤ weighted n w x -ℤ weighted n w y) ≤ total n w * m
weighted_near n w x y k d m h =
    rw (← weighted_scale n w (pos d) x, ← weighted_sub n w (λ i. pos d *ℤ x i) y) (weighted_within n w (λ i. pos d *ℤ x i -ℤ y i) k m h)
