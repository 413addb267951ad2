-- Whole numbers in finer units, and fractions over one denominator.
use Rattle.std.specs.Prelude.{ℕ, ◌/◌, List, map, ℤ, pos, ◌+ℤ◌, ◌*ℤ◌}
use Rattle.std.specs.Int.Signed.{shr_z}
use Rattle.std.specs.List.{range_with_len}

-- How many finer units make one: 2^16.
abbrev pub scale : ℕ
scale = 65536

-- What fractions are taken over: 2^60.
abbrev pub denominator : ℕ
denominator = 1152921504606846976

-- The fraction w / denominator of b, rounded down.
unfoldable pub fraction : ℤ → ℤ → ℤ
fraction w b = shr_z (w *ℤ b) denominator

-- The whole number nearest to v / m, halves upward.
unfoldable pub nearest : ℕ → ℤ → ℤ
nearest m v = shr_z (v +ℤ pos (m / 2)) m

-- The line of n numbers nearest to the finer numbers X, m finer units to one.
abbrev pub nearest_line : ℕ → ℕ → (ℕ → ℤ) → List ℤ
nearest_line m n X = map (λ j. nearest m (X j)) (range_with_len 1 n)
