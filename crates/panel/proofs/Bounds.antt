-- How great points along current lines are.
use Rattle.std.proofs.Common.{◌≡◌, ℕ, ◌≤◌, true, pos, ◌*ℤ◌, nat_abs, arith}
use Rattle.line.specs.Line.{OnLine}
use Rattle.line.proofs.Rules.{sized}
use Rattle.line.proofs.Doubled.{doubled}
use Rattle.std.specs.List.{All}
use Rattle.grid.specs.Grid.{Grid}
use Rattle.panel.specs.declared.record.Panel.{Panel}
use Rattle.panel.specs.Calls.{State, pick, first_lines, second_lines, meeting, mark, is_current}
use Rattle.panel.specs.Runs.{History, ran_since, first_grade, second_grade}
use Rattle.panel.proofs.Passed.{Low, low_at}
use Rattle.panel.proofs.Fits.{FirstFits}
use Rattle.panel.proofs.Ready.{sixteen_low}
use Rattle.panel.proofs.Invariant.{Invariant}

-- Half points that fit low samples are low.
pub fitted_low : (p : Panel) (samples halves : Grid) (part i g : ℕ) → All Low samples → g ≤ 12 → FirstFits p samples halves part i g → (j : ℕ) → OnLine (second_lines p) j →
    nat_abs (meeting p halves part i j) ≤ 4800006
fitted_low p samples halves part i g low small fits j on_j =
    let twice = sized (doubled (second_lines p)) (λ j. pos 16 *ℤ meeting p samples part i j) (meeting p halves part i) 1600000 g
    (λ j _. sixteen_low (meeting p samples part i j) (low_at p.size.columns samples part (pick p.order i j) (pick p.order j i) low)) fits j on_j in
    omega arith

module _ (parts : ℕ) (m : Grid) (st : State) (h : History) (inv : Invariant parts m st h) (part : ℕ) (on_part : OnLine parts part) where
  pub halves_low : (i : ℕ) → OnLine (first_lines st.panel) i → is_current (mark st.panel.first i) ≡ true → (j : ℕ) → OnLine (second_lines st.panel) j →
      nat_abs (meeting st.panel st.halves part i j) ≤ 4800006
  halves_low i on_i current =
      fitted_low st.panel st.samples st.halves part i (first_grade h i) inv.samples_low (inv.first_small i) (inv.first_fit i on_i current part on_part)

  pub controls_low : (j : ℕ) → OnLine (second_lines st.panel) j → ran_since h j ≡ true → (i : ℕ) → OnLine (first_lines st.panel) i →
      nat_abs (meeting st.panel st.controls part i j) ≤ 14400024
  controls_low j on_j ran i on_i =
      let p = st.panel in
      let low = sized (doubled (first_lines p)) (λ i. meeting p st.halves part i j) (λ i. meeting p st.controls part i j) 4800006 (second_grade h j)
      (λ i on_i. halves_low i on_i (inv.all_first j on_j ran i on_i) j on_j) (inv.second_fit j on_j ran part on_part) i on_i in
      omega (arith, inv.second_small j)
