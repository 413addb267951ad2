-- Rounding down and to the nearest.
use Rattle.std.proofs.Common.{◌≡◌, ℕ, ◌-◌, ◌*◌, ◌%◌, ◌^◌, ◌<◌, ◌≤◌, ℤ, pos, negsuc, ◌+ℤ◌, ◌-ℤ◌, ◌*ℤ◌, nat_abs, refl, ap, ◌∙◌, arith, w32, w64, SFits, to_z, of_z, rules}
use Rattle.std.specs.Int.{int_div_euclid}
use Rattle.std.proofs.lemmas.Nat.{div-add-mod', mod_below}
use Rattle.std.proofs.lemmas.Int.{ints, to_z-of_z}
use Rattle.surface.specs.Surface.{F, floored, rounded}

pub floored_rest : (v : ℤ) (d : ℕ) → 0 < d → (w : ℕ) × (w < d) × (v ≡ pos d *ℤ floored v d +ℤ pos w)
floored_rest (pos v) d above = (v % d, mod_below v d above, omega (arith, ints, div-add-mod' v d))
floored_rest (negsuc v) d above =
    (d - 1 - v % d, omega (arith, mod_below v d above), omega (arith, ints, div-add-mod' v d, mod_below v d above))

pub rounded_near : (e : ℤ) → 2 * nat_abs (pos F *ℤ rounded e -ℤ e) ≤ F
unfolding rounded
rounded_near e = let (w, low, is) = floored_rest (pos 2 *ℤ e +ℤ pos F) (2 * F) (omega arith) in omega (arith, ints)

pub floored_is : (z : ℤ) (d : ℕ) → int_div_euclid z (pos d) ≡ floored z d
floored_is (pos v) d = refl
floored_is (negsuc v) d = refl

-- counted in halves of F first
pub rounded_halves : (e : ℤ) → floored (floored e 19327352832 +ℤ pos 1) 2 ≡ rounded e
unfolding rounded
rounded_halves e =
    let (w, w_low, w_is) = floored_rest e 19327352832 (omega arith) in
    let (b, b_low, b_is) = floored_rest (floored e 19327352832 +ℤ pos 1) 2 (omega arith) in
    let (z, z_low, z_is) = floored_rest (pos 2 *ℤ e +ℤ pos F) (2 * F) (omega arith) in
    omega (arith, ints)

fits32 : (z : ℤ) → nat_abs z < 2 ^ 31 → SFits w32 z
fits32 z h = search (rules, ints)

size : (e : ℤ) → SFits w64 e → nat_abs e ≤ 2 ^ 63
size (pos n) f = omega arith
size (negsuc n) f = omega arith

rounded_small : (r e : ℤ) → 2 * nat_abs (pos F *ℤ r -ℤ e) ≤ F → nat_abs e ≤ 2 ^ 63 → nat_abs r < 2 ^ 31
rounded_small r e h k = omega (arith, ints)

rounded_fits : (e : ℤ) → SFits w64 e → SFits w32 (rounded e)
rounded_fits e f = fits32 (rounded e) (rounded_small (rounded e) e (rounded_near e) (size e f))

-- what the code computes with casts
module _ (e q n : ℤ) (f : SFits w64 e) (g : SFits w64 q) (h : SFits w64 n) (q_is : q ≡ int_div_euclid (to_z w64 (of_z w64 e)) (pos 19327352832))
    (n_is : n ≡ floored (to_z w64 (of_z w64 q) +ℤ pos 1) 2) where
  pub nearest_is : to_z w32 (of_z w32 (to_z w64 (of_z w64 n))) ≡ rounded e
  nearest_is =
      let halves : q ≡ floored e 19327352832 = q_is ∙ ap (λ z. int_div_euclid z (pos 19327352832)) (to_z-of_z w64 e f) ∙ floored_is e 19327352832 in
      let whole : n ≡ rounded e = n_is ∙ ap (λ z. floored (z +ℤ pos 1) 2) (to_z-of_z w64 q g ∙ halves) ∙ rounded_halves e in
      ap (λ z. to_z w32 (of_z w32 z)) (to_z-of_z w64 n h ∙ whole) ∙ to_z-of_z w32 (rounded e) (rounded_fits e f)
