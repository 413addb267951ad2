-- The product fits 128 bits, and its part fits 64.
use Rattle.std.proofs.Common.{◌≡◌, ◌≤◌, ◌*ℤ◌, ℤ, unsigned_abs, ◌*◌, ◌^◌, sym, ap, ◌∙◌, subst, arith, w64, SFits, to_z, of_z}
use mir.Syntax.{w128}
use lib.Signed.{shr_z}
use Rattle.std.proofs.lemmas.Int.{to_z-of_z, fits_signed_from_abs, fits_signed_mul}
use Rattle.line.specs.FixedPoint.{denominator, fraction}
use Rattle.line.specs.Fractions.{fraction_small}
use Rattle.line.proofs.pivot.Pivot.part_of.Goals as goal

module _ (w b : ℤ) (third : 3 * unsigned_abs w ≤ denominator) (small : unsigned_abs b ≤ 2 ^ 62) where
  part_fits : SFits w64 (fraction w b)
  part_fits = fits_signed_from_abs w64 (fraction w b) (omega (arith, fraction_small w b third))

  part_is : to_z w128 (of_z w128 (shr_z (to_z w128 (of_z w128 (to_z w128 (of_z w128 (to_z w64 (of_z w64 w))) *ℤ to_z w128 (of_z w128 (to_z w64 (of_z w64 b)))))) denominator)) ≡ fraction w b
  unfolding fraction
  part_is =
      let f : SFits w64 w = fits_signed_from_abs w64 w (omega arith) in
      let g : SFits w64 b = fits_signed_from_abs w64 b (omega arith) in
      let h : SFits w128 w = fits_signed_from_abs w128 w (omega arith) in
      let i : SFits w128 b = fits_signed_from_abs w128 b (omega arith) in
      let j : SFits w128 (w *ℤ b) = fits_signed_mul w128 w b (2 ^ 60) (2 ^ 62) (omega arith) small (omega arith) in
      let k : SFits w128 (shr_z (w *ℤ b) denominator) = fits_signed_from_abs w128 (shr_z (w *ℤ b) denominator) (omega (arith, fraction_small w b third)) in
      simp to_z-of_z

pub overflow_cast-result : goal.overflow_cast-result
overflow_cast-result c =
    rw (c.from.ensures, c.from-2.ensures)
    (subst (SFits w64) (sym (part_is c.args.self.w c.args.b c.args.self.small c.requires)) (part_fits c.args.self.w c.args.b c.args.self.small c.requires))

pub returns : goal.returns
returns c =
    rw (c.from.ensures, c.from-2.ensures)
    (ap (λ z. to_z w64 (of_z w64 z)) (part_is c.args.self.w c.args.b c.args.self.small c.requires) ∙
    to_z-of_z w64 (fraction c.args.self.w c.args.b) (part_fits c.args.self.w c.args.b c.args.self.small c.requires))
