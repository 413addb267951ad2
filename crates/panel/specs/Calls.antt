-- What make, probe, first line and second line answer, check by check in order, and what they leave in the panel and the grids.
use Rattle.std.specs.Prelude.{ℕ, zero, suc, ◌+◌, ◌-◌, ◌*◌, ◌/◌, ◌%◌, Bool, true, false, if◌then◌else◌, ◌&&◌, List, [], ◌∷◌, map, length, replicate, ℤ, pos, ◌*ℤ◌, Ok, Err, Result, ◌==◌, int_le, nat_le, nat_lt, slice_index_or, slice_set, unsigned_abs}
use Rattle.std.specs.List.{range_with_len}
use Rattle.std.specs.Result.{result_and}
use Rattle.grid.specs.Checks.{check, if_ok}
use Rattle.grid.specs.Place.{index}
use Rattle.grid.specs.Grid.{Grid, at, sample_at}
use Rattle.line.specs.Line.{place}
use Rattle.line.specs.Solver.{Solver}
use Rattle.line.specs.Solve.{solve_answer}
use Rattle.line.specs.declared.solver.SolveFault.{SolveFault}
use Rattle.surface.specs.Patch.{all_below}
use Rattle.panel.specs.declared.record.Panel.{Panel}
use Rattle.panel.specs.declared.record.Order.{Order}
use Rattle.panel.specs.declared.record.Order.TheVariants.{RowsFirst, ColumnsFirst}
use Rattle.panel.specs.declared.record.Mark.{Mark}
use Rattle.panel.specs.declared.record.Mark.TheVariants.{Unrun, Stale, Current}
use Rattle.panel_fault.specs.declared.PanelFault.{PanelFault}
use Rattle.panel_fault.specs.declared.PanelFault.TheVariants.{Size, Place, NoLine, PartBeyond, TooManyProbes, FirstStale, GridLength, Solver as SolverRefused}

-- A panel with its three grids.
pub record State : Type 0 where
  pub panel : Panel
  pub samples : Grid
  pub halves : Grid
  pub controls : Grid

-- Accepted, or refused by a fault.
abbrev pub Answer : Type 0
Answer = Result (Unit {0}) PanelFault

-- Limits: rows and columns, a part of a sample either way, accepted probes.
abbrev pub least_size : ℕ
least_size = 2

abbrev pub greatest_size : ℕ
greatest_size = 64

abbrev pub part_limit : ℕ
part_limit = 100000

abbrev pub probe_limit : ℕ
probe_limit = 60000

-- Lines

-- One thing or the other, as rows or columns come first.
abbrev pub pick : {A : Type 0} → Order → A → A → A
pick RowsFirst a b = a
pick ColumnsFirst a b = b

-- How many first lines and second lines there are.
abbrev pub first_lines : Panel → ℕ
first_lines p = pick p.order p.size.rows p.size.columns

abbrev pub second_lines : Panel → ℕ
second_lines p = pick p.order p.size.columns p.size.rows

-- The first line and the second line through a place.
abbrev pub first_of : Panel → ℕ → ℕ → ℕ
first_of p r s = pick p.order r s

abbrev pub second_of : Panel → ℕ → ℕ → ℕ
second_of p r s = pick p.order s r

-- One part where first line i and second line j meet.
abbrev pub meeting : Panel → Grid → ℕ → ℕ → ℕ → ℤ
meeting p g part i j = at p.size.columns g part (pick p.order i j) (pick p.order j i)

-- A grid made from a function of the place.
abbrev pub gridded : Panel → (ℕ → ℕ → List ℤ) → Grid
gridded p f = map (λ k. f (k / p.size.columns + 1) (k % p.size.columns + 1)) (range_with_len 0 (p.size.rows * p.size.columns))

-- What the checks ask

-- A number lies between two limits, both included.
abbrev pub between : ℤ → ℕ → ℕ → Bool
between v low high = int_le (pos low) v && int_le v (pos high)

-- A grid has as many samples as the panel has places.
abbrev pub sized : Panel → Grid → Bool
sized p g = length g == p.size.rows * p.size.columns

-- No part of a sample, counted from k, lies beyond the limit; else the first that does, with its place.
abbrev pub parts_within : ℕ → ℕ → ℕ → List ℤ → Answer
parts_within r s k [] = Ok tt
parts_within r s k (v ∷ vs) = result_and (check (nat_le (unsigned_abs v) part_limit) (PartBeyond r s k)) (parts_within r s (k + 1) vs)

-- The same over a grid from its k-th sample on, row by row.
abbrev pub grid_within : ℕ → ℕ → Grid → Answer
grid_within columns k [] = Ok tt
grid_within columns k (v ∷ g) = result_and (parts_within (k / columns + 1) (k % columns + 1) 1 v) (grid_within columns (k + 1) g)

-- A solver's answer on one part of a line, as the panel's.
abbrev pub solver_took : ℕ → ℕ → Result (Unit {0}) SolveFault → Answer
solver_took line part (Ok _) = Ok tt
solver_took line part (Err e) = Err (SolverRefused line part e)

-- A solver takes the lines of all parts, counted from k; else the first refusal.
abbrev pub solver_takes : ℕ → ℕ → ℕ → (ℕ → List ℤ) → Answer
solver_takes line k zero lines = Ok tt
solver_takes line k (suc left) lines =
    result_and (solver_took line k (solve_answer (lines k) (length (lines k)))) (solver_takes line (k + 1) left lines)

-- Marks

-- The grade of the solver that last ran the line, 0 if none did.
abbrev pub grade_of : Mark → ℕ
grade_of Unrun = 0
grade_of (Stale grade) = grade
grade_of (Current grade) = grade

-- Whether the line is current.
abbrev pub is_current : Mark → Bool
is_current Unrun = false
is_current (Stale grade) = false
is_current (Current grade) = true

-- The mark of line i.
abbrev pub mark : List Mark → ℕ → Mark
mark ks i = slice_index_or ks (i - 1) Unrun

-- Lines 1 to n are all current.
abbrev pub all_current : ℕ → List Mark → Bool
all_current n ks = all_below n (λ i. is_current (mark ks (i + 1)))

-- A mark without its claim to be current; the grade stays.
abbrev pub let_go : Mark → Mark
let_go Unrun = Unrun
let_go (Stale grade) = Stale grade
let_go (Current grade) = Stale grade

-- Every line stale, and one line stale.
abbrev pub stale : List Mark → List Mark
stale = map let_go

abbrev pub stale_at : List Mark → ℕ → List Mark
stale_at ks i = slice_set ks (i - 1) (let_go (mark ks i))

-- Line i ran by a solver of grade g.
abbrev pub ran_at : List Mark → ℕ → ℕ → List Mark
ran_at ks i g = slice_set ks (i - 1) (Current g)

-- Make

abbrev pub make_answer : ℤ → ℤ → Grid → Grid → Grid → Answer
make_answer m n samples halves controls =
    result_and (check (between m least_size greatest_size) Size)
    (result_and (check (between n least_size greatest_size) Size)
    (result_and (check (length samples == unsigned_abs m * unsigned_abs n) GridLength)
    (result_and (check (length halves == unsigned_abs m * unsigned_abs n) GridLength)
    (result_and (check (length controls == unsigned_abs m * unsigned_abs n) GridLength)
    (grid_within (unsigned_abs n) 0 samples)))))

-- A panel that was just made: no line has run.
abbrev pub new_panel : ℤ → ℤ → Order → Panel
new_panel m n o =
    record { size = record { rows = unsigned_abs m; columns = unsigned_abs n }; order = o; probes = 0; first = replicate 64 Unrun; second = replicate 64 Unrun }

abbrev pub make_result : ℤ → ℤ → Order → Grid → Grid → Grid → Result Panel PanelFault
make_result m n o samples halves controls = result_and (make_answer m n samples halves controls) (Ok (new_panel m n o))

-- Probe

abbrev pub probe_answer : Panel → Grid → ℤ → ℤ → List ℤ → Answer
probe_answer p samples row column new =
    result_and (check (sized p samples) GridLength)
    (result_and (check (between row 1 p.size.rows && between column 1 p.size.columns) Place)
    (result_and (parts_within (unsigned_abs row) (unsigned_abs column) 1 new)
    (check (nat_lt p.probes probe_limit) TooManyProbes)))

-- The panel after an accepted probe: one more is counted, the first line through the place is stale, and every second line.
abbrev pub probed_panel : Panel → ℕ → ℕ → Panel
probed_panel p r s = record p { probes = p.probes + 1; first = stale_at p.first (first_of p r s); second = stale p.second }

-- The panel and the samples after any probe.
abbrev pub probe_panel : Panel → Grid → ℤ → ℤ → List ℤ → Panel
probe_panel p samples row column new = if_ok (probe_answer p samples row column new) (probed_panel p (unsigned_abs row) (unsigned_abs column)) p

abbrev pub probe_samples : Panel → Grid → ℤ → ℤ → List ℤ → Grid
probe_samples p samples row column new = if_ok (probe_answer p samples row column new) (slice_set samples (index p.size.columns (unsigned_abs row) (unsigned_abs column)) new) samples

abbrev pub probe_after : State → ℤ → ℤ → List ℤ → State
probe_after st row column new =
    record st { panel = probe_panel st.panel st.samples row column new; samples = probe_samples st.panel st.samples row column new }

-- First line

-- Sixteen times one part of the samples along first line i.
abbrev pub fine_line : Panel → Grid → ℕ → ℕ → List ℤ
fine_line p samples i part = map (λ j. pos 16 *ℤ meeting p samples part i j) (range_with_len 1 (second_lines p))

abbrev pub first_answer : ℕ → Panel → Grid → Grid → ℤ → Answer
first_answer parts p samples halves i =
    result_and (check (sized p samples && sized p halves) GridLength)
    (result_and (check (between i 1 (first_lines p)) NoLine)
    (solver_takes (unsigned_abs i) 1 parts (fine_line p samples (unsigned_abs i))))

-- The half points after an accepted call, at one place and all: the solver's rule on that line, part by part.
abbrev pub first_sample : ℕ → Panel → Solver → Grid → Grid → ℕ → ℕ → ℕ → List ℤ
first_sample parts p by samples halves i r s =
    if i == first_of p r s
    then map (λ part. place (by.rule (fine_line p samples i part)) (second_of p r s)) (range_with_len 1 parts)
    else sample_at p.size.columns halves r s

abbrev pub first_fitted : ℕ → Panel → Solver → Grid → Grid → ℕ → Grid
first_fitted parts p by samples halves i = gridded p (first_sample parts p by samples halves i)

-- The panel after an accepted call: the line ran, and every second line is stale.
abbrev pub first_ran_panel : Panel → ℕ → ℕ → Panel
first_ran_panel p i g = record p { first = ran_at p.first i g; second = stale p.second }

-- The panel and the half points after any call.
abbrev pub first_panel : ℕ → Panel → Solver → Grid → Grid → ℤ → Panel
first_panel parts p by samples halves i = if_ok (first_answer parts p samples halves i) (first_ran_panel p (unsigned_abs i) by.grade) p

abbrev pub first_halves : ℕ → Panel → Solver → Grid → Grid → ℤ → Grid
first_halves parts p by samples halves i = if_ok (first_answer parts p samples halves i) (first_fitted parts p by samples halves (unsigned_abs i)) halves

abbrev pub first_after : ℕ → Solver → State → ℤ → State
first_after parts by st i =
    record st { panel = first_panel parts st.panel by st.samples st.halves i; halves = first_halves parts st.panel by st.samples st.halves i }

-- Second line

-- One part of the half points along second line j.
abbrev pub along_second : Panel → Grid → ℕ → ℕ → List ℤ
along_second p g part j = map (λ i. meeting p g part i j) (range_with_len 1 (first_lines p))

abbrev pub second_answer : ℕ → Panel → Grid → Grid → ℤ → Answer
second_answer parts p halves controls j =
    result_and (check (sized p halves && sized p controls) GridLength)
    (result_and (check (between j 1 (second_lines p)) NoLine)
    (result_and (check (all_current (first_lines p) p.first) FirstStale)
    (solver_takes (unsigned_abs j) 1 parts (λ part. along_second p halves part (unsigned_abs j)))))

-- The control points after an accepted call, at one place and all.
abbrev pub second_sample : ℕ → Panel → Solver → Grid → Grid → ℕ → ℕ → ℕ → List ℤ
second_sample parts p by halves controls j r s =
    if j == second_of p r s
    then map (λ part. place (by.rule (along_second p halves part j)) (first_of p r s)) (range_with_len 1 parts)
    else sample_at p.size.columns controls r s

abbrev pub second_fitted : ℕ → Panel → Solver → Grid → Grid → ℕ → Grid
second_fitted parts p by halves controls j = gridded p (second_sample parts p by halves controls j)

-- The panel after an accepted call: the line ran.
abbrev pub second_ran_panel : Panel → ℕ → ℕ → Panel
second_ran_panel p j g = record p { second = ran_at p.second j g }

-- The panel and the control points after any call.
abbrev pub second_panel : ℕ → Panel → Solver → Grid → Grid → ℤ → Panel
second_panel parts p by halves controls j = if_ok (second_answer parts p halves controls j) (second_ran_panel p (unsigned_abs j) by.grade) p

abbrev pub second_controls : ℕ → Panel → Solver → Grid → Grid → ℤ → Grid
second_controls parts p by halves controls j = if_ok (second_answer parts p halves controls j) (second_fitted parts p by halves controls (unsigned_abs j)) controls

abbrev pub second_after : ℕ → Solver → State → ℤ → State
second_after parts by st j =
    record st { panel = second_panel parts st.panel by st.halves st.controls j; controls = second_controls parts st.panel by st.halves st.controls j }
