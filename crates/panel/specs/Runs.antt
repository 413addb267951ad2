-- Whole runs of calls: what a history of accepted calls says, which states are reached by calls, and what a reading then promises.
-- A run begins with an accepted make. Calls follow in any order and number, refused ones among them, each from what the one before
-- left, each line call with a solver of its own. The steps are what the contracts of the calls themselves promise.
use Rattle.std.specs.Prelude.{◌≡◌, ℕ, ◌+◌, ◌-◌, ◌*◌, ◌<◌, ◌≤◌, Bool, true, false, if◌then◌else◌, not, ◌&&◌, ◌||◌, List, [], ◌∷◌, length, ℤ, pos, ◌-ℤ◌, ◌*ℤ◌, IfOk, Ok, Err, Result, MatchResult, ◌==◌, unsigned_abs}
use Rattle.std.specs.List.{All}
use Rattle.std.specs.Result.{result_and}
use Rattle.grid.specs.Checks.{check}
use Rattle.grid.specs.Grid.{Grid, at}
use Rattle.grid.specs.Sample.{part_of}
use Rattle.line.specs.Line.{OnLine, sum_at}
use Rattle.line.specs.Solver.{Solver, Sound}
use Rattle.surface.specs.Surface.{ExactGrid, Near}
use Rattle.surface.specs.Patch.{all_below}
use Rattle.panel.specs.declared.record.Panel.{Panel}
use Rattle.panel.specs.declared.record.Order.{Order}
use Rattle.panel_fault.specs.declared.PanelFault.{PanelFault}
use Rattle.panel_fault.specs.declared.PanelFault.TheVariants.{NoLine, FirstStale, SecondStale}
use Rattle.panel.specs.Calls.{State, Answer, between, first_lines, second_lines, pick, make_answer, new_panel, probe_answer, probe_after, first_answer, first_after, second_answer, second_after}
use Rattle.panel.specs.Reading.{needed, greatest}

-- An accepted call.
pub data Event : Type 0 where
  probed : (row column : ℕ) → List ℤ → Event
  first_ran : (line : ℕ) → Solver → Event
  second_ran : (line : ℕ) → Solver → Event

-- The accepted calls since make, the newest first.
abbrev pub History : Type 0
History = List Event

-- A call enters the history if it was accepted.
abbrev pub recorded : Answer → Event → History → History
recorded (Ok _) e h = e ∷ h
recorded (Err _) e h = h

-- A state that a run of calls has reached: `made` are the samples of its make, and the history lists its accepted calls.
pub data Reached (parts : ℕ) (made : Grid) : State → History → Type 0 where
  make : (rows columns : ℤ) (o : Order) (halves controls : Grid) → make_answer rows columns made halves controls ≡ Ok tt →
      All (λ s. length s ≡ parts) made →
      Reached parts made (record { panel = new_panel rows columns o; samples = made; halves = halves; controls = controls }) []
  probe : {s : State} {h : History} → Reached parts made s h → (row column : ℤ) (new : List ℤ) → length new ≡ parts →
      Reached parts made (probe_after s row column new) (recorded (probe_answer s.panel s.samples row column new) (probed (unsigned_abs row) (unsigned_abs column) new) h)
  first_line : {s : State} {h : History} → Reached parts made s h → (by : Solver) → Sound by → (i : ℤ) →
      Reached parts made (first_after parts by s i) (recorded (first_answer parts s.panel s.samples s.halves i) (first_ran (unsigned_abs i) by) h)
  second_line : {s : State} {h : History} → Reached parts made s h → (by : Solver) → Sound by → (j : ℤ) →
      Reached parts made (second_after parts by s j) (recorded (second_answer parts s.panel s.halves s.controls j) (second_ran (unsigned_abs j) by) h)

-- What a history says

-- The part held at a place: that of the last accepted probe there, or of make.
abbrev pub held : ℕ → Grid → History → ℕ → ℕ → ℕ → ℤ
held columns made [] part r s = at columns made part r s
held columns made (probed r' s' new ∷ h) part r s = if r == r' && s == s' then part_of new part else held columns made h part r s
held columns made (first_ran i by ∷ h) part r s = held columns made h part r s
held columns made (second_ran j by ∷ h) part r s = held columns made h part r s

-- A first line has run since the last accepted probe in it.
abbrev pub first_ran_since : Order → History → ℕ → Bool
first_ran_since o [] i = false
first_ran_since o (probed r s new ∷ h) i = not (pick o r s == i) && first_ran_since o h i
first_ran_since o (first_ran i' by ∷ h) i = i' == i || first_ran_since o h i
first_ran_since o (second_ran j by ∷ h) i = first_ran_since o h i

-- A second line has run since the last accepted probe or first line anywhere.
abbrev pub ran_since : History → ℕ → Bool
ran_since [] j = false
ran_since (probed r s new ∷ h) j = false
ran_since (first_ran i by ∷ h) j = false
ran_since (second_ran j' by ∷ h) j = j' == j || ran_since h j

-- The grade of the solver in the last accepted call of a line.
abbrev pub first_grade : History → ℕ → ℕ
first_grade [] i = 0
first_grade (probed r s new ∷ h) i = first_grade h i
first_grade (first_ran i' by ∷ h) i = if i' == i then by.grade else first_grade h i
first_grade (second_ran j by ∷ h) i = first_grade h i

abbrev pub second_grade : History → ℕ → ℕ
second_grade [] j = 0
second_grade (probed r s new ∷ h) j = second_grade h j
second_grade (first_ran i by ∷ h) j = second_grade h j
second_grade (second_ran j' by ∷ h) j = if j' == j then by.grade else second_grade h j

-- The first grade: the greatest of all first lines. The second grade: the greatest of the second lines that a reading needs.
abbrev pub first_most : Panel → History → ℕ
first_most p h = greatest (first_grade h) (first_lines p)

abbrev pub second_most : Panel → History → ℕ → ℕ → ℕ
second_most p h x y = greatest (λ a. second_grade h (needed p x y (a - 1))) 4

-- What is promised

-- An answered reading at a place, by the samples that the history holds. Every needed line has run since. The tolerance is the stated sum of
-- grades. The held samples have an exact control grid, and from the surface of every one the reading is at most half the tolerance away.
-- At a grid place six times its distance from 16 times the held sample is at most the two grades and 3.
pub record Faithful (parts : ℕ) (p : Panel) (made : Grid) (h : History) (x y : ℕ) (reading : ℕ → ℤ) (tolerance : ℕ) : Type 0 where
  pub ran : (a : ℕ) → a < 4 → ran_since h (needed p x y a) ≡ true
  pub stated : tolerance ≡ second_most p h x y + 3 * first_most p h + 1
  pub has_surface : (part : ℕ) → OnLine parts part →
      (N : ℕ → ℕ → ℤ) × (D : ℕ) × ExactGrid sum_at p.size.rows p.size.columns (held p.size.columns made h part) N D
  pub near_surface : (part : ℕ) → OnLine parts part → (N : ℕ → ℕ → ℤ) (D : ℕ) →
      ExactGrid sum_at p.size.rows p.size.columns (held p.size.columns made h part) N D → Near p.size.rows p.size.columns N D x y (reading part) tolerance
  pub near_sample : (r s : ℕ) → x ≡ 32 * r → y ≡ 32 * s → (part : ℕ) → OnLine parts part →
      6 * unsigned_abs (reading part -ℤ pos 16 *ℤ held p.size.columns made h part r s) ≤ second_most p h x y + first_most p h + 3

-- The answer of read: a faithful reading, or the refusal of a stale line together with a needed line that has not run since.
abbrev pub ReadsFaithfully : ℕ → Panel → Grid → History → ℕ → ℕ → Result (List ℤ × ℕ) PanelFault → Type 0
ReadsFaithfully parts p made h x y r =
    MatchResult r (λ a. Faithful parts p made h x y (part_of a.0) a.1)
    (λ e. (e ≡ SecondStale) × ((a : ℕ) × (a < 4) × (ran_since h (needed p x y a) ≡ false)))

-- After an accepted make a run has begun, with the samples that it was given.
abbrev pub Begins : ℕ → Grid → Grid → Grid → Result Panel PanelFault → Type 0
Begins parts samples halves controls r =
    IfOk r (λ p. Reached parts samples (record { panel = p; samples = samples; halves = halves; controls = controls }) [])

-- Samples have exactly one surface in fractions: an exact control grid, and any two are equal as fractions.
pub record OneSurface (rows columns : ℕ) (sample : ℕ → ℕ → ℤ) : Type 0 where
  pub some : (N : ℕ → ℕ → ℤ) × (D : ℕ) × ExactGrid sum_at rows columns sample N D
  pub one : (N M : ℕ → ℕ → ℤ) (D E : ℕ) → ExactGrid sum_at rows columns sample N D → ExactGrid sum_at rows columns sample M E →
      (r s : ℕ) → OnLine rows r → OnLine columns s → pos E *ℤ N r s ≡ pos D *ℤ M r s

-- So do the samples of every grid that make accepts, part by part.
abbrev pub HasOneSurface : ℕ → Grid → Result Panel PanelFault → Type 0
HasOneSurface parts samples r =
    IfOk r (λ p. (part : ℕ) → OnLine parts part → OneSurface p.size.rows p.size.columns (at p.size.columns samples part))

-- On a panel that calls have reached no solver refuses. A first line is refused only for its number.
abbrev pub first_refusals : Panel → ℤ → Answer
first_refusals p i = check (between i 1 (first_lines p)) NoLine

-- A second line is refused only for its number, or if a first line has not run since the last accepted probe in it.
abbrev pub second_refusals : Panel → History → ℤ → Answer
second_refusals p h j =
    result_and (check (between j 1 (second_lines p)) NoLine) (check (all_below (first_lines p) (λ i. first_ran_since p.order h (i + 1))) FirstStale)
