-- Eight worked cases: four lines, the weights, the rounding, and a panel of two by two heights with its readings.
use Rattle.std.specs.Prelude.{◌≡◌, ◌-◌, ◌/◌, List, [], ◌∷◌, ℤ, pos, negsuc, Ok}
use Rattle.grid.specs.Grid.{Grid, at}
use Rattle.line.specs.Line.{sum_at}
use Rattle.line.specs.Solver.{WholeSolution}
use Rattle.line.specs.Elimination.{elimination}
use Rattle.surface.specs.Surface.{weight, F, rounded, ExactGrid}
use Rattle.panel.specs.declared.record.Order.TheVariants.{RowsFirst}
use Rattle.panel.specs.Calls.{State, make_answer, new_panel, first_after, second_after}
use Rattle.panel.specs.Reading.{read_answer}

-- Whole numbers solve a line exactly, and elimination gives them.
pub record Solved (k z : List ℤ) : Type 0 where
  pub exact : WholeSolution k z
  pub eliminated : elimination.rule k ≡ z

-- The line 7, 7 has the solution 7, 7.
abbrev pub LevelTwo : Type 0
LevelTwo = Solved (pos 7 ∷ pos 7 ∷ []) (pos 7 ∷ pos 7 ∷ [])

-- The line 4, 0 has the solution 5, -1.
abbrev pub SlopeTwo : Type 0
SlopeTwo = Solved (pos 4 ∷ pos 0 ∷ []) (pos 5 ∷ negsuc 0 ∷ [])

-- The line 15, 0, 0 has the solution 19, -5, 1.
abbrev pub EndOfThree : Type 0
EndOfThree = Solved (pos 15 ∷ pos 0 ∷ pos 0 ∷ []) (pos 19 ∷ negsuc 4 ∷ pos 1 ∷ [])

-- The line 0, 15, 0 has the solution -5, 25, -5.
abbrev pub MiddleOfThree : Type 0
MiddleOfThree = Solved (pos 0 ∷ pos 15 ∷ pos 0 ∷ []) (negsuc 4 ∷ pos 25 ∷ negsuc 4 ∷ [])

-- The four weights at one 32nd past a grid place.
pub record WeightsPastAPlace : Type 0 where
  pub before : weight 0 1 ≡ 29791
  pub own : weight 1 1 ≡ 130883
  pub next : weight 2 1 ≡ 35933
  pub after : weight 3 1 ≡ 1

-- A sum of half of F reads 1, and one of minus half of F reads 0: halves go upward.
pub record HalvesUpward : Type 0 where
  pub above : rounded (pos (F / 2)) ≡ pos 1
  pub below : rounded (negsuc (F / 2 - 1)) ≡ pos 0

-- A panel of two by two heights

-- A grid of four heights, row by row.
abbrev pub heights : ℤ → ℤ → ℤ → ℤ → Grid
heights a b c d = (a ∷ []) ∷ (b ∷ []) ∷ (c ∷ []) ∷ (d ∷ []) ∷ []

-- The samples 4, 0, 0, 0, and a grid of zeros.
abbrev pub corner : Grid
corner = heights (pos 4) (pos 0) (pos 0) (pos 0)

abbrev pub zeros : Grid
zeros = heights (pos 0) (pos 0) (pos 0) (pos 0)

-- The half points and the control points of these samples.
abbrev pub corner_halves : Grid
corner_halves = heights (pos 80) (negsuc 15) (pos 0) (pos 0)

abbrev pub corner_controls : Grid
corner_controls = heights (pos 100) (negsuc 19) (negsuc 19) (pos 4)

-- The panel just made, rows first, with half points and control points of zero.
abbrev pub begun : State
begun = record { panel = new_panel (pos 2) (pos 2) RowsFirst; samples = corner; halves = zeros; controls = zeros }

-- A first line and a second line by elimination.
abbrev pub first_by : State → ℤ → State
first_by = first_after 1 elimination

abbrev pub second_by : State → ℤ → State
second_by = second_after 1 elimination

-- Both first lines have run, and then both second lines.
abbrev pub half_fitted : State
half_fitted = first_by (first_by begun (pos 1)) (pos 2)

abbrev pub fitted : State
fitted = second_by (second_by half_fitted (pos 1)) (pos 2)

-- The heights 4, 0, 0, 0 have the control points 100, -20, -20, 4: these are exact, and the calls leave them.
pub record CornerPanel : Type 0 where
  pub exact : ExactGrid sum_at 2 2 (at 2 corner 1) (at 2 corner_controls 1) 1
  pub made : make_answer (pos 2) (pos 2) corner zeros zeros ≡ Ok tt
  pub halves : fitted.halves ≡ corner_halves
  pub controls : fitted.controls ≡ corner_controls

-- A reading of one height, with the tolerance 13 of two fits by elimination.
abbrev pub Reads : ℤ → ℤ → ℤ → Type 0
Reads x y height = read_answer 1 fitted.panel fitted.controls x y ≡ Ok (height ∷ [], 13)

-- On the panel that these calls leave: 64 at (32, 32), 32 at (48, 32), 16 at (48, 48).
pub record CornerReadings : Type 0 where
  pub at_corner : Reads (pos 32) (pos 32) (pos 64)
  pub between_rows : Reads (pos 48) (pos 32) (pos 32)
  pub in_the_middle : Reads (pos 48) (pos 48) (pos 16)
