-- How the code walks a line of a grid: from a start by equal steps. Cited by inner functions alone.
use Rattle.std.specs.Prelude.{◌≡◌, ℕ, zero, suc, ◌+◌, ◌-◌, ◌*◌, ◌<◌, ◌≤◌, List, [], map, ℤ, pos, ◌*ℤ◌, slice_index_or, slice_set, unsigned_abs}
use Rattle.std.specs.List.{range_with_len}
use Rattle.grid.specs.Grid.{Grid}
use Rattle.grid.specs.Sample.{part_of}
use Rattle.panel.specs.declared.lane.Lane.{Lane}
use Rattle.panel.specs.declared.record.Panel.{Panel}
use Rattle.panel.specs.Calls.{pick}

-- A row and a column of a panel's grids.
abbrev pub row_lane : Panel → ℕ → Lane
row_lane p r = record { start = (r - 1) * p.size.columns; step = 1; count = p.size.columns }

abbrev pub column_lane : Panel → ℕ → Lane
column_lane p s = record { start = s - 1; step = p.size.columns; count = p.size.rows }

-- First line i and second line j.
abbrev pub first_lane : Panel → ℕ → Lane
first_lane p i = pick p.order (row_lane p i) (column_lane p i)

abbrev pub second_lane : Panel → ℕ → Lane
second_lane p j = pick p.order (column_lane p j) (row_lane p j)

-- The index of entry e, counted from 0.
abbrev pub on_lane : Lane → ℕ → ℕ
on_lane l e = l.start + e * l.step

-- A lane lies within a grid of n samples.
abbrev pub Inside : Lane → ℕ → Type 0
Inside l n = (e : ℕ) → e < l.count → on_lane l e < n

-- One part along a lane, times a factor.
abbrev pub laned : ℕ → Grid → Lane → ℕ → List ℤ
laned scale g l part = map (λ e. pos scale *ℤ part_of (slice_index_or g (on_lane l e) []) part) (range_with_len 0 l.count)

-- The lines of all parts as they were solved: the parts at entry e.
abbrev pub column : ℕ → List (List ℤ) → ℕ → List ℤ
column parts solved e = map (λ q. slice_index_or (slice_index_or solved q []) e (pos 0)) (range_with_len 0 parts)

-- The same where a rule solved them.
abbrev pub rule_column : ℕ → (List ℤ → List ℤ) → (ℕ → List ℤ) → ℕ → List ℤ
rule_column parts rule lines e = map (λ q. slice_index_or (rule (lines (q + 1))) e (pos 0)) (range_with_len 0 parts)

-- The first n numbers of each part's line are the rule's.
abbrev pub Filled : ℕ → ℕ → (List ℤ → List ℤ) → (ℕ → List ℤ) → List (List ℤ) → Type 0
Filled parts n rule lines solved =
    (q e : ℕ) → q < parts → e < n → slice_index_or (slice_index_or solved q []) e (pos 0) ≡ slice_index_or (rule (lines (q + 1))) e (pos 0)

-- Numbers that a solver may answer fit a part.
abbrev pub Narrow : List (List ℤ) → Type 0
Narrow solved = (q e : ℕ) → unsigned_abs (slice_index_or (slice_index_or solved q []) e (pos 0)) ≤ 15000006

-- A grid with the first n entries of a lane replaced by samples.
abbrev pub stored : Lane → (ℕ → List ℤ) → ℕ → Grid → Grid
stored l samples zero g = g
stored l samples (suc n) g = slice_set (stored l samples n g) (on_lane l n) (samples n)
