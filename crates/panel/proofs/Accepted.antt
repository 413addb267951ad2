-- On a panel that calls have reached no solver refuses.
use Rattle.std.proofs.Common.{◌≡◌, ℕ, ◌+◌, ℤ, ap, ◌∙◌, arith}
use Rattle.std.specs.Result.{result_and}
use Rattle.grid.specs.Checks.{check}
use Rattle.grid.specs.Grid.{Grid}
use Rattle.surface.specs.Patch.{all_below}
use Rattle.surface.proofs.Below.{below_same}
use Rattle.panel_fault.specs.declared.PanelFault.TheVariants.{NoLine, FirstStale}
use Rattle.panel.specs.Calls.{State, between, first_lines, second_lines, mark, all_current, first_answer, second_answer, is_current}
use Rattle.panel.specs.Fit.{FirstReady, SecondReady}
use Rattle.panel.specs.Runs.{History, Reached, first_ran_since, first_refusals, second_refusals}
use Rattle.panel.proofs.Marked.{each_current}
use Rattle.panel.proofs.Every.{invariant}
use Rattle.panel.proofs.Bounds.{halves_low}
use Rattle.panel.proofs.Ready.{first_when, second_when}

module _ (parts : ℕ) (m : Grid) (st : State) (h : History) (reached : Reached parts m st h) where
  pub first_ready : FirstReady st.panel st.samples st.halves
  first_ready =
      let inv = invariant reached in
      record { rows_within = inv.rows_within; columns_within = inv.columns_within; samples_long = inv.samples_long; halves_long = inv.halves_long; samples_low = inv.samples_low }

  second_ready : SecondReady parts st.panel st.halves st.controls
  second_ready =
      let inv = invariant reached in
      record {
        rows_within = inv.rows_within;
        columns_within = inv.columns_within;
        halves_long = inv.halves_long;
        controls_long = inv.controls_long;
        halves_low = λ current part on_part i j on_i on_j.
            halves_low parts m st h inv part on_part i on_i (each_current (first_lines st.panel) st.panel.first i current on_i) j on_j;
      }

  -- A first line is refused only for its number.
  pub first_accepted : (i : ℤ) → first_answer parts st.panel st.samples st.halves i ≡ first_refusals st.panel i
  first_accepted = first_when parts st.panel st.samples st.halves first_ready

  -- The marks of first lines are what the history says.
  all_current_is : all_current (first_lines st.panel) st.panel.first ≡ all_below (first_lines st.panel) (λ i. first_ran_since st.panel.order h (i + 1))
  all_current_is =
      below_same (first_lines st.panel) (λ i. is_current (mark st.panel.first (i + 1))) (λ i. first_ran_since st.panel.order h (i + 1))
      (λ i low. (invariant reached).first_current (i + 1) (omega arith))

  -- A second line is refused only for its number or a stale first line.
  pub second_accepted : (j : ℤ) → second_answer parts st.panel st.halves st.controls j ≡ second_refusals st.panel h j
  second_accepted j =
      second_when parts st.panel st.halves st.controls second_ready j
      ∙ ap (λ b. result_and (check (between j 1 (second_lines st.panel)) NoLine) (check b FirstStale)) all_current_is
