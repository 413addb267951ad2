-- The two sweeps of elimination: how large their numbers get, and that the finer line misses its sums by at most 12.
use Rattle.std.specs.Prelude.{◌≡◌, ℕ, zero, suc, ◌+◌, ◌-◌, ◌*◌, ◌<◌, ◌≤◌, List, length, ℤ, pos, ◌+ℤ◌, ◌-ℤ◌, ◌*ℤ◌, unsigned_abs, refl}
use Rattle.std.proofs.Common.{arith, subst}
use Rattle.std.proofs.lemmas.Int.{ints}
use Rattle.std.proofs.lemmas.List.FromFn.{length-map-range_with_len, get_or-map-range_with_len}
use Rattle.line.specs.Line.{OnLine, place, sum_at, Within}
use Rattle.line.specs.Solver.{Admitted, limit}
use Rattle.line.specs.FixedPoint.{scale, denominator, fraction}
use Rattle.line.specs.Pivot.{pivot}
use Rattle.line.specs.Elimination.{forward, forwards, back, fine, forward_limit, back_limit}
use Rattle.line.specs.Fractions.{fraction_small, fraction_near}
use Rattle.line.specs.Pivots.{pivot_small}
use Rattle.line.specs.Ring.{*-sub}
use Rattle.line.specs.Steps.{rows_near}

-- Forward

pub forward_small : (k : List ℤ) → Within limit k → (j : ℕ) → j ≤ length k → unsigned_abs (forward k j) ≤ forward_limit
unfolding forward
forward_small k small zero on = omega arith
forward_small k small (suc j) on =
    step (place k (suc j)) (forward k j) (fraction (pos (pivot (length k) (suc j))) (pos (6 * scale) *ℤ place k (suc j) -ℤ forward k j))
    (small (suc j) (omega arith)) (forward_small k small j (omega arith)) (fraction_small (pos (pivot (length k) (suc j))) (pos (6 * scale) *ℤ place k (suc j) -ℤ forward k j) (pivot_small (length k) (suc j)))
  where
    step : (v g t : ℤ) → unsigned_abs v ≤ limit → unsigned_abs g ≤ forward_limit → 3 * unsigned_abs t ≤ unsigned_abs (pos (6 * scale) *ℤ v -ℤ g) + 2 → unsigned_abs t ≤ forward_limit
    step v g t p q r = omega (arith, ints)

forth_near : (k : List ℤ) (j : ℕ) → unsigned_abs (pos denominator *ℤ forward k (suc j) -ℤ pos (pivot (length k) (suc j)) *ℤ (pos (6 * scale) *ℤ place k (suc j) -ℤ forward k j)) ≤ 1 * denominator
unfolding forward
forth_near k j = omega (arith, fraction_near (pos (pivot (length k) (suc j))) (pos (6 * scale) *ℤ place k (suc j) -ℤ forward k j))

pub length_forwards : (k : List ℤ) → length (forwards k) ≡ length k
length_forwards k = length-map-range_with_len (forward k) 1 (length k)

place_forwards : (k : List ℤ) (j : ℕ) → OnLine (length k) j → place (forwards k) j ≡ forward k j
place_forwards k j on = get_or-map-range_with_len (forward k) 1 (length k) (j - 1) j (pos 0) (omega arith) (omega arith)

pub forwards_within : (k : List ℤ) → Within limit k → Within forward_limit (forwards k)
forwards_within k small j on =
    let at : OnLine (length k) j = omega (arith, length_forwards k) in
    rw (place_forwards k j at) (forward_small k small j at.1)

-- Back

pub back_small : (g : List ℤ) → 1 ≤ length g → Within forward_limit g → (i : ℕ) → i ≤ length g → unsigned_abs (back g i) ≤ back_limit
unfolding back
back_small g some small zero on = omega arith
back_small g some small (suc i) on =
    step (place g (length g - i)) (back g i) (fraction (pos (pivot (length g) (length g - i))) (back g i))
    (small (length g - i) (omega arith)) (back_small g some small i (omega arith)) (fraction_small (pos (pivot (length g) (length g - i))) (back g i) (pivot_small (length g) (length g - i)))
  where
    step : (g x t : ℤ) → unsigned_abs g ≤ forward_limit → unsigned_abs x ≤ back_limit → 3 * unsigned_abs t ≤ unsigned_abs x + 2 → unsigned_abs (g -ℤ t) ≤ back_limit
    step g x t p q r = omega (arith, ints)

-- x j = g j - w j x (j + 1)
pub fine_step : (g : List ℤ) (j : ℕ) → OnLine (length g) j → fine g j ≡ place g j -ℤ fraction (pos (pivot (length g) j)) (fine g (j + 1))
unfolding back
fine_step g j on = grind arith

back_near : (g : List ℤ) (j : ℕ) → OnLine (length g) j → unsigned_abs ((pos denominator *ℤ fine g j -ℤ pos denominator *ℤ place g j) +ℤ pos (pivot (length g) j) *ℤ fine g (j + 1)) ≤ 1 * denominator
back_near g j on =
    rw (fine_step g j on, *-sub (pos denominator) (place g j) (fraction (pos (pivot (length g) j)) (fine g (j + 1))))
    (plain (pos denominator *ℤ place g j) (pos denominator *ℤ fraction (pos (pivot (length g) j)) (fine g (j + 1))) (pos (pivot (length g) j) *ℤ fine g (j + 1))
    (fraction_near (pos (pivot (length g) j)) (fine g (j + 1))))
  where
    plain : (g t p : ℤ) → unsigned_abs (t -ℤ p) < denominator → unsigned_abs (((g -ℤ t) -ℤ g) +ℤ p) ≤ 1 * denominator
    plain g t p near = omega (arith, ints)

fine_end : (g : List ℤ) → fine g (length g + 1) ≡ pos 0
unfolding back
fine_end g = grind arith

-- Both

-- the finer line
abbrev pub finer : List ℤ → ℕ → ℤ
finer k = fine (forwards k)

forward_start : (k : List ℤ) → forward k 0 ≡ pos 0
unfolding forward
forward_start k = refl

both_small : (v g x : ℤ) → unsigned_abs v ≤ limit → unsigned_abs g ≤ forward_limit → unsigned_abs x ≤ back_limit → 5 * unsigned_abs ((pos (6 * scale) *ℤ v -ℤ g) -ℤ x) ≤ denominator
both_small v g x p q r = omega (arith, ints)

pub finer_near : (k : List ℤ) → Admitted k → (j : ℕ) → OnLine (length k) j → unsigned_abs (sum_at (length k) (finer k) j -ℤ pos (6 * scale) *ℤ place k j) ≤ 12
finer_near k ok =
    rows_near (length k) 1 (λ j. pos (6 * scale) *ℤ place k j) (forward k) (finer k) ok.low (omega arith) (forward_start k)
    (subst (λ (n : ℕ). finer k (n + 1) ≡ pos 0) (length_forwards k) (fine_end (forwards k)))
    (λ j on. forth_near k j)
    (λ j on. rw (place_forwards k j on) at
    (subst (λ (n : ℕ). unsigned_abs ((pos denominator *ℤ finer k j -ℤ pos denominator *ℤ place (forwards k) j) +ℤ pos (pivot n j) *ℤ finer k (j + 1)) ≤ 1 * denominator) (length_forwards k)
    (back_near (forwards k) j (omega (arith, length_forwards k)))))
    (λ j on. both_small (place k (suc j)) (forward k j) (finer k (suc j + 1)) (ok.small (suc j) (omega arith)) (forward_small k ok.small j (omega arith))
    (back_small (forwards k) (omega (arith, length_forwards k, ok.low)) (forwards_within k ok.small) (length (forwards k) + 1 - (suc j + 1)) (omega arith)))
