-- The pivots: none is above a third, and each is the quotient of its row but for less than its divisor.
use Rattle.std.specs.Prelude.{◌≡◌, ℕ, zero, suc, ◌+◌, ◌-◌, ◌*◌, ◌/◌, ◌%◌, ◌<◌, ◌≤◌, refl}
use Rattle.std.proofs.Common.{arith, ap₂}
use Rattle.std.proofs.lemmas.Nat.{mod_below}
use Rattle.line.specs.FixedPoint.{denominator}
use Rattle.line.specs.Pivot.{diagonal, pivot}

pub four_or_five : (n j : ℕ) → (4 ≤ diagonal n j) × (diagonal n j ≤ 5)
four_or_five n j = grind arith

-- for a divisor D of at least 3 denominator
third : (D : ℕ) → 3 * denominator ≤ D → 3 * (denominator * denominator / D) ≤ denominator
third D h = grind arith

pub pivot_small : (n j : ℕ) → 3 * pivot n j ≤ denominator
unfolding pivot
pivot_small n zero = omega arith
pivot_small n (suc j) = third _ (omega (arith, four_or_five n (suc j), pivot_small n j))

-- the divisor of row j + 1
pub divisor : ℕ → ℕ → ℕ
divisor n j = diagonal n (suc j) * denominator - pivot n j

pub divisor_is : (n j : ℕ) → divisor n j + pivot n j ≡ diagonal n (suc j) * denominator
unfolding divisor
divisor_is n j = omega (arith, four_or_five n (suc j), pivot_small n j)

pub divisor_high : (n j : ℕ) → divisor n j ≤ 5 * denominator
unfolding divisor
divisor_high n j = grind arith

-- what the division leaves
pub rest : ℕ → ℕ → ℕ
rest n j = (denominator * denominator) % divisor n j

pub rest_is : (n j : ℕ) → pivot n (suc j) * divisor n j + rest n j ≡ denominator * denominator
unfolding pivot rest divisor
rest_is n j = grind arith

pub rest_high : (n j : ℕ) → rest n j ≤ 5 * denominator
unfolding rest
rest_high n j = omega (arith, divisor_high n j, divisor_is n j, pivot_small n j, four_or_five n (suc j), mod_below (denominator * denominator) (divisor n j) (omega (arith, divisor_is n j, pivot_small n j, four_or_five n (suc j))))

-- every row but the last has the pivot of a longer line

inner_diagonal : (n m j : ℕ) → j < n → j < m → diagonal n j ≡ diagonal m j
inner_diagonal n m j p q = grind arith

pub pivot_inner : (n m j : ℕ) → j < n → j < m → pivot m j ≡ pivot n j
unfolding pivot
pivot_inner n m zero p q = refl
pivot_inner n m (suc j) p q = ap₂ (λ (a b : ℕ). denominator * denominator / (a * denominator - b)) (inner_diagonal m n (suc j) q p) (pivot_inner n m j (omega arith) (omega arith))
