-- Shifting in 64 bits loses nothing.
use Rattle.std.proofs.Common.{pos, ◌+ℤ◌, arith, w64, SFits}
use lib.Signed.{mag_shr, shr_z}
use Rattle.std.proofs.lemmas.Int.{ints, to_z-of_z, fits_signed_from_abs}
use Rattle.line.specs.FixedPoint.{nearest}
use Rattle.line.proofs.elimination.rounded.Goals as goal

pub returns : goal.returns
unfolding nearest
returns c =
    let value : SFits w64 c.args.v = c.ranges.v in
    let sum : SFits w64 (c.args.v +ℤ pos 32768) = fits_signed_from_abs w64 (c.args.v +ℤ pos 32768) (omega (arith, ints)) in
    let shifted : SFits w64 (shr_z (c.args.v +ℤ pos 32768) 65536) = record { sfits = omega (arith, mag_shr (c.args.v +ℤ pos 32768) 65536, sum.sfits) } in
    simp to_z-of_z
