-- What fit answers, and what it leaves: every first line in order, and then every second line, by two solvers.
use Rattle.std.specs.Prelude.{◌≡◌, ℕ, zero, suc, ◌*◌, ◌≤◌, true, List, ◌∷◌, length, pos, Ok, unsigned_abs}
use Rattle.std.specs.List.{All}
use Rattle.grid.specs.Checks.{if_ok}
use Rattle.grid.specs.Grid.{Grid}
use Rattle.line.specs.Line.{OnLine}
use Rattle.line.specs.Solver.{Solver}
use Rattle.panel.specs.declared.record.Panel.{Panel}
use Rattle.panel.specs.declared.record.Mark.{Mark}
use Rattle.panel.specs.Calls.{State, Answer, part_limit, first_lines, second_lines, meeting, all_current, stale, ran_at, make_answer, first_fitted, second_fitted}
use Rattle.panel.specs.Runs.{History, Reached, ran_since}
use Rattle.panel.specs.Runs.Event.{first_ran, second_ran}

-- The checks of make, on the sizes of the panel: past them no line can be refused.
abbrev pub fit_answer : Panel → Grid → Grid → Grid → Answer
fit_answer p samples halves controls = make_answer (pos p.size.rows) (pos p.size.columns) samples halves controls

-- The marks after lines 1 to n ran by a solver of grade g.
abbrev pub all_ran : List Mark → ℕ → ℕ → List Mark
all_ran ks g zero = ks
all_ran ks g (suc n) = ran_at (all_ran ks g n) (suc n) g

-- The half points after first lines 1 to n, and the control points after second lines 1 to n.
abbrev pub halves_fitted : ℕ → Panel → Solver → Grid → Grid → ℕ → Grid
halves_fitted parts p by samples halves zero = halves
halves_fitted parts p by samples halves (suc n) = first_fitted parts p by samples (halves_fitted parts p by samples halves n) (suc n)

abbrev pub controls_fitted : ℕ → Panel → Solver → Grid → Grid → ℕ → Grid
controls_fitted parts p by halves controls zero = controls
controls_fitted parts p by halves controls (suc n) = second_fitted parts p by halves (controls_fitted parts p by halves controls n) (suc n)

-- The marks after n first lines ran: second lines go stale with each.
abbrev pub staled : List Mark → ℕ → List Mark
staled ks zero = ks
staled ks (suc n) = stale (staled ks n)

-- The panel after first lines 1 to n, and after second lines 1 to n.
abbrev pub firsts_panel : Panel → Solver → ℕ → Panel
firsts_panel p by n = record p { first = all_ran p.first by.grade n; second = staled p.second n }

abbrev pub seconds_panel : Panel → Solver → ℕ → Panel
seconds_panel p by n = record p { second = all_ran p.second by.grade n }

-- The panel after an accepted fit.
abbrev pub fitted_panel : Panel → Solver → Solver → Panel
fitted_panel p first second = seconds_panel (firsts_panel p first (first_lines p)) second (second_lines p)

-- The half points and the control points after an accepted fit.
abbrev pub fitted_halves : ℕ → Panel → Solver → Grid → Grid → Grid
fitted_halves parts p first samples halves = halves_fitted parts p first samples halves (first_lines p)

abbrev pub fitted_controls : ℕ → Panel → Solver → Solver → Grid → Grid → Grid → Grid
fitted_controls parts p first second samples halves controls = controls_fitted parts p second (fitted_halves parts p first samples halves) controls (second_lines p)

-- The panel, the half points and the control points after any fit.
abbrev pub fit_panel : Panel → Solver → Solver → Grid → Grid → Grid → Panel
fit_panel p first second samples halves controls = if_ok (fit_answer p samples halves controls) (fitted_panel p first second) p

abbrev pub fit_halves : ℕ → Panel → Solver → Grid → Grid → Grid → Grid
fit_halves parts p first samples halves controls = if_ok (fit_answer p samples halves controls) (fitted_halves parts p first samples halves) halves

abbrev pub fit_controls : ℕ → Panel → Solver → Solver → Grid → Grid → Grid → Grid
fit_controls parts p first second samples halves controls = if_ok (fit_answer p samples halves controls) (fitted_controls parts p first second samples halves controls) controls

-- The history after first lines 1 to n, and after second lines 1 to n.
abbrev pub firsts_ran : Solver → ℕ → History → History
firsts_ran by zero h = h
firsts_ran by (suc n) h = first_ran (suc n) by ∷ firsts_ran by n h

abbrev pub seconds_ran : Solver → ℕ → History → History
seconds_ran by zero h = h
seconds_ran by (suc n) h = second_ran (suc n) by ∷ seconds_ran by n h

-- The history after every first and every second line.
abbrev pub fit_history : Panel → Solver → Solver → History → History
fit_history p first second h = seconds_ran second (second_lines p) (firsts_ran first (first_lines p) h)

-- On a panel that calls have reached fit is accepted, its line calls join the history, and no reading in the area is then refused: every
-- second line has run since.
pub record Fitted (parts : ℕ) (made : Grid) (after : State) (h : History) (r : Answer) : Type 0 where
  pub accepted : r ≡ Ok tt
  pub reached : Reached parts made after h
  pub ran : (j : ℕ) → OnLine (second_lines after.panel) j → ran_since h j ≡ true

-- For inner functions: what lets every first line run, and what lets every second line run once all first lines are current.
pub record FirstReady (p : Panel) (samples halves : Grid) : Type 0 where
  pub rows_within : (2 ≤ p.size.rows) × (p.size.rows ≤ 64)
  pub columns_within : (2 ≤ p.size.columns) × (p.size.columns ≤ 64)
  pub samples_long : length samples ≡ p.size.rows * p.size.columns
  pub halves_long : length halves ≡ p.size.rows * p.size.columns
  pub samples_low : All (All (λ x. unsigned_abs x ≤ part_limit)) samples

pub record SecondReady (parts : ℕ) (p : Panel) (halves controls : Grid) : Type 0 where
  pub rows_within : (2 ≤ p.size.rows) × (p.size.rows ≤ 64)
  pub columns_within : (2 ≤ p.size.columns) × (p.size.columns ≤ 64)
  pub halves_long : length halves ≡ p.size.rows * p.size.columns
  pub controls_long : length controls ≡ p.size.rows * p.size.columns
  pub halves_low : all_current (first_lines p) p.first ≡ true → (part : ℕ) → OnLine parts part → (i j : ℕ) → OnLine (first_lines p) i → OnLine (second_lines p) j → unsigned_abs (meeting p halves part i j) ≤ 4800006
