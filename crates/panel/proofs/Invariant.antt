-- What holds of every state that calls have reached.
use Rattle.std.proofs.Common.{◌≡◌, ℕ, ◌*◌, ◌≤◌, Bool, true, false, cond, length, refl}
use Rattle.std.specs.List.{All}
use Rattle.std.proofs.lemmas.Bool.{both_ways}
use Rattle.line.specs.Line.{OnLine}
use Rattle.panel.specs.declared.record.Panel.{Panel}
use Rattle.panel.specs.declared.record.Order.{Order}
use Rattle.panel.specs.declared.record.Order.TheVariants.{RowsFirst, ColumnsFirst}
use Rattle.grid.specs.Grid.{Grid, at}
use Rattle.panel.specs.Calls.{State, pick, first_lines, second_lines, mark, grade_of, is_current}
use Rattle.panel.specs.Runs.{History, held, first_ran_since, ran_since, first_grade, second_grade}
use Rattle.panel.proofs.Passed.{Low}
use Rattle.panel.proofs.Fits.{FirstFits, SecondFits}

abbrev pub SizeWithin : ℕ → Type 0
SizeWithin n = (2 ≤ n) × (n ≤ 64)

pub record Invariant (parts : ℕ) (m : Grid) (st : State) (h : History) : Type 0 where
  pub rows_within : SizeWithin st.panel.size.rows
  pub columns_within : SizeWithin st.panel.size.columns
  pub samples_long : length st.samples ≡ st.panel.size.rows * st.panel.size.columns
  pub halves_long : length st.halves ≡ st.panel.size.rows * st.panel.size.columns
  pub controls_long : length st.controls ≡ st.panel.size.rows * st.panel.size.columns
  pub samples_whole : All (λ v. length v ≡ parts) st.samples
  pub samples_low : All Low st.samples
  pub samples_held : (part r s : ℕ) → OnLine st.panel.size.rows r → OnLine st.panel.size.columns s → at st.panel.size.columns st.samples part r s ≡ held st.panel.size.columns m h part r s
  pub first_long : length st.panel.first ≡ 64
  pub second_long : length st.panel.second ≡ 64
  pub first_graded : (i : ℕ) → OnLine (first_lines st.panel) i → grade_of (mark st.panel.first i) ≡ first_grade h i
  pub second_graded : (j : ℕ) → OnLine (second_lines st.panel) j → grade_of (mark st.panel.second j) ≡ second_grade h j
  pub first_current : (i : ℕ) → OnLine (first_lines st.panel) i → is_current (mark st.panel.first i) ≡ first_ran_since st.panel.order h i
  pub first_small : (i : ℕ) → first_grade h i ≤ 12
  pub second_small : (j : ℕ) → second_grade h j ≤ 12
  pub second_current : (j : ℕ) → OnLine (second_lines st.panel) j → is_current (mark st.panel.second j) ≡ ran_since h j
  pub first_fit : (i : ℕ) → OnLine (first_lines st.panel) i → is_current (mark st.panel.first i) ≡ true →
      (part : ℕ) → OnLine parts part → FirstFits st.panel st.samples st.halves part i (first_grade h i)
  pub all_first : (j : ℕ) → OnLine (second_lines st.panel) j → ran_since h j ≡ true →
      (i : ℕ) → OnLine (first_lines st.panel) i → is_current (mark st.panel.first i) ≡ true
  pub second_fit : (j : ℕ) → OnLine (second_lines st.panel) j → ran_since h j ≡ true →
      (part : ℕ) → OnLine parts part → SecondFits st.panel st.halves st.controls part j (second_grade h j)

-- For its proofs: lines are as few as rows and columns; grades stay small; no line has run.

pub few_lines : (p : Panel) → SizeWithin p.size.rows → SizeWithin p.size.columns → SizeWithin (first_lines p) × SizeWithin (second_lines p)
few_lines p a b = go p.order
  where
    go : (o : Order) → SizeWithin (pick o p.size.rows p.size.columns) × SizeWithin (pick o p.size.columns p.size.rows)
    go RowsFirst = (a, b)
    go ColumnsFirst = (b, a)

pub small : (b : Bool) (g g' : ℕ) → g ≤ 12 → g' ≤ 12 → cond b g g' ≤ 12
small true g g' p q = p
small false g g' p q = q

pub never : {A : Type 0} → false ≡ true → A
never e = absurd (both_ways false refl e)
