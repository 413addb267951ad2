-- The weights at the 32 places between two grid places, by trial of each.
use Rattle.std.proofs.Common.{◌≡◌, ℕ, ◌+◌, ◌-◌, ◌*◌, ◌%◌, ◌^◌, ◌<◌, ◌≤◌, true, eqb, leb, [], ◌∷◌, get_or, ℤ, pos, nat_abs, refl, ap, ◌∙◌, zero-add, arith, w64, to_z}
use Rattle.std.proofs.lemmas.Int.{to_z_pos}
use Rattle.std.proofs.lemmas.Bool.{leb-true, eqb-true}
use Rattle.surface.specs.Surface.{weight}
use Rattle.surface.specs.Products.{Low}
use Rattle.surface.specs.Patch.{all_below, weights_at}
use Rattle.surface.proofs.Below.{at_below}
use Rattle.surface.proofs.Weighted.{total}

pub weights_whole : (t : ℕ) → t < 32 → weight 0 t + weight 1 t + weight 2 t + weight 3 t ≡ 196608
weights_whole t h =
    eqb-true (weight 0 t + weight 1 t + weight 2 t + weight 3 t) 196608 (at_below 32 (λ t. eqb (weight 0 t + weight 1 t + weight 2 t + weight 3 t) 196608) refl t h)

pub weights_total : (t : ℕ) → t < 32 → total 4 (λ a. weight a t) ≡ 196608
weights_total t h = rw zero-add (weights_whole t h)

-- none is above 4 * 32^3
all_low : (t : ℕ) → t < 32 → all_below 4 (λ a. leb (weight a t) 131072) ≡ true
all_low t h = at_below 32 (λ t. all_below 4 (λ a. leb (weight a t) 131072)) refl t h

pub weight_low : (t a : ℕ) → t < 32 → a < 4 → weight a t ≤ 131072
weight_low t a h k = leb-true (weight a t) 131072 (at_below 4 (λ a. leb (weight a t) 131072) (all_low t h) a k)

pub weights_low : (x : ℕ) → Low 131072 (weights_at x)
weights_low x a h =
    leb-true (nat_abs (get_or (weights_at x) a (pos 0))) 131072 (at_below 4 (λ a. leb (nat_abs (get_or (weights_at x) a (pos 0))) 131072) (all_low (x % 32) (omega arith)) a h)

pub cubed : (t : ℕ) → t < 33 → (t * t * t ≡ t ^ 3) × (t * t * t ≤ 32768)
cubed t h = (eqb-true (t * t * t) (t ^ 3) (at_below 33 (λ t. eqb (t * t * t) (t ^ 3)) refl t h), leb-true (t * t * t) 32768 (at_below 33 (λ t. leb (t * t * t) 32768) refl t h))

-- the two weights with a difference
pub record Middle (t : ℕ) : Type 0 where
  pub square : t ^ 2 ≡ t * t
  pub before : 192 * (t * t) ≤ 3 * t ^ 3 + 131072
  pub after : 3 * t ^ 3 ≤ 96 * (t * t) + 3072 * t + 32768
  pub low : t * t ≤ 1024

pub middle : (t : ℕ) → t < 32 → Middle t
middle t h = record {
  square = eqb-true (t ^ 2) (t * t) (at_below 32 (λ t. eqb (t ^ 2) (t * t)) refl t h);
  before = leb-true (192 * (t * t)) (3 * t ^ 3 + 131072) (at_below 32 (λ t. leb (192 * (t * t)) (3 * t ^ 3 + 131072)) refl t h);
  after = leb-true (3 * t ^ 3) (96 * (t * t) + 3072 * t + 32768) (at_below 32 (λ t. leb (3 * t ^ 3) (96 * (t * t) + 3072 * t + 32768)) refl t h);
  low = leb-true (t * t) 1024 (at_below 32 (λ t. leb (t * t) 1024) refl t h);
}

-- what the code computes with casts
cast : (t a n : ℕ) → t < 32 → a < 4 → n ≡ weight a t → to_z w64 n ≡ pos (weight a t)
cast t a n h k e = let low : n < 2 ^ 63 = omega (arith, weight_low t a h k) in to_z_pos w64 n low ∙ ap pos e

same_four : {a b c d e f g h : ℤ} → a ≡ e → b ≡ f → c ≡ g → d ≡ h → (a ∷ b ∷ c ∷ d ∷ []) ≡ (e ∷ f ∷ g ∷ h ∷ [])
same_four p q r s = cc

pub weights_are : (x i j k l : ℕ) → i ≡ (32 - x % 32) ^ 3 → j ≡ (3 * l + 131072) - 192 * (x % 32 * (x % 32)) →
    k ≡ (96 * (x % 32 * (x % 32)) + 3072 * (x % 32) + 32768) - 3 * l → l ≡ (x % 32) ^ 3 →
    (to_z w64 i ∷ to_z w64 j ∷ to_z w64 k ∷ to_z w64 l ∷ []) ≡ weights_at x
weights_are x i j k l p q r s =
    let t = x % 32 in
    let below : t < 32 = omega arith in
    let m = middle t below in
    same_four (cast t 0 i below (omega arith) p) (cast t 1 j below (omega arith) (rw (m.square, ← s) q))
    (cast t 2 k below (omega arith) (rw (m.square, ← s) r)) (cast t 3 l below (omega arith) s)
