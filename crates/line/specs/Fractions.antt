-- A fraction of a number is near to it and small; a number rounded to nearest is within half a unit.
use Rattle.std.specs.Prelude.{◌≡◌, ℕ, ◌+◌, ◌*◌, ◌<◌, ◌≤◌, ℤ, pos, ◌-ℤ◌, ◌*ℤ◌, unsigned_abs}
use Rattle.std.proofs.Common.{arith}
use Rattle.line.specs.FixedPoint.{denominator, fraction, nearest}
use Rattle.line.specs.Floor.{third_size}

pub fraction_small : (w b : ℤ) → 3 * unsigned_abs w ≤ denominator → 3 * unsigned_abs (fraction w b) ≤ unsigned_abs b + 2
unfolding fraction
fraction_small w b third = third_size w b denominator (omega arith) third

pub fraction_near : (w b : ℤ) → unsigned_abs (pos denominator *ℤ fraction w b -ℤ w *ℤ b) < denominator
unfolding fraction
fraction_near w b = grind arith

pub fraction_none : (w : ℤ) → fraction w (pos 0) ≡ pos 0
unfolding fraction
fraction_none w = grind arith

-- a number rounded to nearest is within half a unit, whatever the unit
pub nearest_half : (m : ℕ) (v : ℤ) → 0 < m → 2 * unsigned_abs (pos m *ℤ nearest m v -ℤ v) ≤ m
unfolding nearest
nearest_half m v above = grind arith
