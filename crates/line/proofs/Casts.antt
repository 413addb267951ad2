-- A number that fits 64 bits is what its bits say.
use Rattle.std.proofs.Common.{◌≡◌, ◌^◌, ◌<◌, ℤ, nat_abs, arith, w64, to_z, of_z}

pub same64 : (z : ℤ) → nat_abs z < 2 ^ 63 → to_z w64 (of_z w64 z) ≡ z
same64 z h = grind arith
