-- Quotients rounded down.
use Rattle.std.specs.Prelude.{ℕ, ◌+◌, ◌*◌, ◌<◌, ◌≤◌, ℤ, pos, negsuc, ◌-ℤ◌, ◌*ℤ◌, ◌≤ℤ◌, unsigned_abs}
use Rattle.std.proofs.Common.{arith}
use Rattle.std.specs.Int.Signed.{shr_z}
use Rattle.std.proofs.lemmas.Int.{ints}
use Rattle.std.proofs.lemmas.Nat.{mul-le}
use Rattle.line.specs.Products.{cancel-<}

-- m floor(z / m) is less than m below z
pub floor_near : (z : ℤ) (m : ℕ) → 0 < m → unsigned_abs (pos m *ℤ shr_z z m -ℤ z) < m
floor_near (pos a) m above = grind arith
floor_near (negsuc a) m above = grind arith

-- and never above it
pub floor_low : (z : ℤ) (m : ℕ) → 0 < m → (pos m *ℤ shr_z z m) ≤ℤ z
floor_low (pos a) m above = grind arith
floor_low (negsuc a) m above = grind arith

-- at most a third of b, but for the rounding
pub third_size : (w b : ℤ) (q : ℕ) → 0 < q → 3 * unsigned_abs w ≤ q → 3 * unsigned_abs (shr_z (w *ℤ b) q) ≤ unsigned_abs b + 2
third_size w b q above h =
    let t : ℕ = unsigned_abs (shr_z (w *ℤ b) q) in
    let near : q * t < q + unsigned_abs w * unsigned_abs b = size (shr_z (w *ℤ b) q) (floor_near (w *ℤ b) q above) in
    omega (arith, cancel-< q (3 * t) (unsigned_abs b + 3) (omega (arith, mul-le (3 * unsigned_abs w) (unsigned_abs b) q (unsigned_abs b) h (omega arith))))
  where
    apart : (a b : ℤ) (m : ℕ) → unsigned_abs (a -ℤ b) < m → unsigned_abs a < m + unsigned_abs b
    apart a b m near = omega (arith, ints)

    size : (v : ℤ) → unsigned_abs (pos q *ℤ v -ℤ w *ℤ b) < q → q * unsigned_abs v < q + unsigned_abs w * unsigned_abs b
    size v near = grind arith
