-- The two by two panel, by computation.
use Rattle.std.proofs.Common.{ℕ, zero, suc, refl, arith, lit<}
use Rattle.line.specs.Line.{OnLine}
use Rattle.line.specs.FixedPoint.{fraction, nearest}
use Rattle.line.specs.Pivot.{pivot}
use Rattle.line.specs.Elimination.{forward, back}
use Rattle.surface.specs.Surface.{rounded}
use Rattle.panel.specs.Reading.{needed_current, needed_within}
use Rattle.worked.specs.Worked.{CornerPanel, CornerReadings, HalvesUpward, WeightsPastAPlace}

pub weights : WeightsPastAPlace
weights = record { before = refl; own = refl; next = refl; after = refl }

pub halves_upward : HalvesUpward
unfolding rounded
halves_upward = record { above = refl; below = refl }

four_places : (P : ℕ → ℕ → Type 0) → P 1 1 → P 1 2 → P 2 1 → P 2 2 → (r s : ℕ) → OnLine 2 r → OnLine 2 s → P r s
four_places P a b c d zero s on at = absurd (omega arith)
four_places P a b c d (suc zero) zero on at = absurd (omega arith)
four_places P a b c d (suc zero) (suc zero) on at = a
four_places P a b c d (suc zero) (suc (suc zero)) on at = b
four_places P a b c d (suc zero) (suc (suc (suc s))) on at = absurd (omega arith)
four_places P a b c d (suc (suc zero)) zero on at = absurd (omega arith)
four_places P a b c d (suc (suc zero)) (suc zero) on at = c
four_places P a b c d (suc (suc zero)) (suc (suc zero)) on at = d
four_places P a b c d (suc (suc zero)) (suc (suc (suc s))) on at = absurd (omega arith)
four_places P a b c d (suc (suc (suc r))) s on at = absurd (omega arith)

pub corner_panel : CornerPanel
unfolding forward back fraction nearest pivot
corner_panel = record {
  exact = record { above = lit< tt; through = four_places _ refl refl refl refl };
  made = refl;
  halves = refl;
  controls = refl;
}

pub corner_readings : CornerReadings
unfolding forward back fraction nearest pivot rounded needed_current needed_within
corner_readings = record { at_corner = refl; between_rows = refl; in_the_middle = refl }
