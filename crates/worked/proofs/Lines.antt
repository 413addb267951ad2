-- The four lines, by computation at each place.
use Rattle.std.proofs.Common.{ℕ, zero, suc, refl, arith}
use Rattle.line.specs.Line.{OnLine}
use Rattle.line.specs.FixedPoint.{fraction, nearest}
use Rattle.line.specs.Pivot.{pivot}
use Rattle.line.specs.Elimination.{forward, back}
use Rattle.worked.specs.Worked.{LevelTwo, SlopeTwo, EndOfThree, MiddleOfThree}

-- what holds at each place of a short line

two_places : (P : ℕ → Type 0) → P 1 → P 2 → (j : ℕ) → OnLine 2 j → P j
two_places P a b zero on = absurd (omega arith)
two_places P a b (suc zero) on = a
two_places P a b (suc (suc zero)) on = b
two_places P a b (suc (suc (suc j))) on = absurd (omega arith)

three_places : (P : ℕ → Type 0) → P 1 → P 2 → P 3 → (j : ℕ) → OnLine 3 j → P j
three_places P a b c zero on = absurd (omega arith)
three_places P a b c (suc zero) on = a
three_places P a b c (suc (suc zero)) on = b
three_places P a b c (suc (suc (suc zero))) on = c
three_places P a b c (suc (suc (suc (suc j)))) on = absurd (omega arith)

pub level_two : LevelTwo
unfolding forward back fraction nearest pivot
level_two = record { exact = record { long = refl; meets = two_places _ refl refl }; eliminated = refl }

pub slope_two : SlopeTwo
unfolding forward back fraction nearest pivot
slope_two = record { exact = record { long = refl; meets = two_places _ refl refl }; eliminated = refl }

pub end_of_three : EndOfThree
unfolding forward back fraction nearest pivot
end_of_three = record { exact = record { long = refl; meets = three_places _ refl refl refl }; eliminated = refl }

pub middle_of_three : MiddleOfThree
unfolding forward back fraction nearest pivot
middle_of_three = record { exact = record { long = refl; meets = three_places _ refl refl refl }; eliminated = refl }
