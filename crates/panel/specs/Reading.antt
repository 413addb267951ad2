-- What read answers at x along the rows' numbering and y along the columns', in 32nds: row 1 is x = 32.
use Rattle.std.specs.Prelude.{ℕ, zero, suc, ◌+◌, ◌-◌, ◌*◌, ◌<◌, ◌≤◌, max, Bool, ◌&&◌, List, map, ℤ, Ok, Err, Result, unsigned_abs}
use Rattle.std.specs.List.{range_with_len}
use Rattle.std.specs.Result.{result_and}
use Rattle.grid.specs.Checks.{check}
use Rattle.grid.specs.Grid.{Grid, at}
use Rattle.surface.specs.Surface.{line_around, patch_sum, rounded, tolerance_of}
use Rattle.surface.specs.Patch.{all_below, within_reach}
use Rattle.panel.specs.declared.record.Panel.{Panel}
use Rattle.panel_fault.specs.declared.PanelFault.{PanelFault}
use Rattle.panel_fault.specs.declared.PanelFault.TheVariants.{OutsideArea, SecondStale, GridLength, ControlBeyond}
use Rattle.panel.specs.Calls.{between, sized, pick, first_lines, second_lines, mark, grade_of, is_current}

-- The area in which a panel is read, as a fact and as a test.
abbrev pub InArea : Panel → ℕ → ℕ → Type 0
InArea p x y = (32 ≤ x) × (x < 32 * p.size.rows) × (32 ≤ y) × (y < 32 * p.size.columns)

abbrev pub in_area : Panel → ℤ → ℤ → Bool
in_area p x y = between x 32 (32 * p.size.rows - 1) && between y 32 (32 * p.size.columns - 1)

-- The second lines through the sixteen control points around a place, one for each a below 4.
abbrev pub needed : Panel → ℕ → ℕ → ℕ → ℕ
needed p x y a = line_around (second_lines p) (pick p.order y x) a

-- Every one of them is current.
unfoldable pub needed_current : Panel → ℕ → ℕ → Bool
needed_current p x y = all_below 4 (λ a. is_current (mark p.second (needed p x y a)))

-- One part of the control point in row a and column b of the sixteen.
abbrev pub around : Panel → Grid → ℕ → ℕ → ℕ → ℕ → ℕ → ℤ
around p controls part x y a b = at p.size.columns controls part (line_around p.size.rows x a) (line_around p.size.columns y b)

-- Every part of the sixteen lies within reach.
unfoldable pub needed_within : ℕ → Panel → Grid → ℕ → ℕ → Bool
needed_within parts p controls x y = all_below parts (λ k. within_reach (around p controls (k + 1) x y))

-- One part of the reading.
abbrev pub reading : Panel → Grid → ℕ → ℕ → ℕ → ℤ
reading p controls x y part = rounded (patch_sum p.size.rows p.size.columns (at p.size.columns controls part) x y)

-- The greatest of f at 1 to n.
abbrev pub greatest : (ℕ → ℕ) → ℕ → ℕ
greatest f zero = 0
greatest f (suc n) = max (f (suc n)) (greatest f n)

-- The tolerance: the greatest grade of the needed second lines, three times the greatest grade of all first lines, and 1.
abbrev pub tolerance : Panel → ℕ → ℕ → ℕ
tolerance p x y =
    tolerance_of (greatest (λ i. grade_of (mark p.first i)) (first_lines p)) (greatest (λ a. grade_of (mark p.second (needed p x y (a - 1)))) 4)

-- The checks in their order, then the parts of the reading and the tolerance.
abbrev pub read_answer : ℕ → Panel → Grid → ℤ → ℤ → Result (List ℤ × ℕ) PanelFault
read_answer parts p controls x y =
    result_and (check (sized p controls) GridLength)
    (result_and (check (in_area p x y) OutsideArea)
    (result_and (check (needed_current p (unsigned_abs x) (unsigned_abs y)) SecondStale)
    (result_and (check (needed_within parts p controls (unsigned_abs x) (unsigned_abs y)) ControlBeyond)
    (Ok (map (reading p controls (unsigned_abs x) (unsigned_abs y)) (range_with_len 1 parts), tolerance p (unsigned_abs x) (unsigned_abs y))))))

-- A sample of any kind in an answer, by its parts.
abbrev pub sample_shown : {K : Type 0} → (K → List ℤ) → Result K PanelFault → Result (List ℤ) PanelFault
sample_shown parts (Ok s) = Ok (parts s)
sample_shown parts (Err e) = Err e

-- An answer with a sample of any kind, by the parts of the sample.
abbrev pub shown : {K : Type 0} → (K → List ℤ) → Result (K × ℕ) PanelFault → Result (List ℤ × ℕ) PanelFault
shown parts (Ok a) = Ok (parts a.0, a.1)
shown parts (Err e) = Err e
