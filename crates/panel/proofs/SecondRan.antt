-- The invariant after an accepted second line.
use Rattle.std.proofs.Common.{◌≡◌, ℕ, ◌-◌, ◌*◌, true, cond, ◌&&◌, ◌||◌, eqb, ◌∷◌, length, ℤ, nat_abs, Ok, ap, ◌∙◌, subst, arith}
use Rattle.std.proofs.lemmas.List.FromFn.{length-map-range_with_len}
use Rattle.std.proofs.lemmas.List.{length-set}
use Rattle.std.proofs.lemmas.Bool.{eqb-true}
use Rattle.line.specs.Line.{OnLine, place}
use Rattle.grid.specs.Checks.{if_ok, check}
use Rattle.line.specs.Solver.{Solver, Sound}
use Rattle.panel_fault.specs.declared.PanelFault.TheVariants.{NoLine, FirstStale, GridLength}
use Rattle.grid.specs.Grid.{Grid}
use Rattle.panel.specs.Calls.{State, Answer, between, sized, first_lines, second_lines, meeting, along_second, all_current, solver_takes, second_answer, second_fitted, second_ran_panel}
use Rattle.panel.specs.Runs.{History, ran_since, second_grade}
use Rattle.panel.specs.Runs.Event.{second_ran}
use Rattle.panel.proofs.Marked.{ran_at_grade, ran_at_current, each_current}
use Rattle.grid.proofs.Chains.{both_good, held}
use Rattle.panel.proofs.Passed.{between_is, all_taken}
use Rattle.panel.proofs.Fits.{Fits, refit, solver_fits, second_fitted_at}
use Rattle.panel.proofs.Invariant.{Invariant, small, few_lines}

-- the state after a second line, by its answer
abbrev pub second_taken : ℕ → Solver → State → ℕ → Answer → State
second_taken parts by st j a =
    record { panel = if_ok a (second_ran_panel st.panel j by.grade) st.panel; samples = st.samples; halves = st.halves; controls = if_ok a (second_fitted parts st.panel by st.halves st.controls j) st.controls }

module _ (parts : ℕ) (m : Grid) (st : State) (h : History) (inv : Invariant parts m st h) where
  pub after_second : (by : Solver) → Sound by → (line : ℤ) → second_answer parts st.panel st.halves st.controls line ≡ Ok tt →
      Invariant parts m (second_taken parts by st (nat_abs line) (Ok tt)) (second_ran (nat_abs line) by ∷ h)
  after_second by sound line ok =
      let p = st.panel in
      let n = nat_abs line in
      let a = both_good (check (sized p st.halves && sized p st.controls) GridLength) _ ok in
      let b = both_good (check (between line 1 (second_lines p)) NoLine) _ a.1 in
      let c = both_good (check (all_current (first_lines p) p.first) FirstStale) (solver_takes n 1 parts (λ part. along_second p st.halves part n)) b.1 in
      let on : OnLine (second_lines p) n = between_is line 1 (second_lines p) (held _ _ b.0) in
      let few = few_lines p inv.rows_within inv.columns_within in
      let in_marks : OnLine (length p.second) n = omega (arith, inv.second_long) in
      record {
        rows_within = inv.rows_within;
        columns_within = inv.columns_within;
        samples_long = inv.samples_long;
        halves_long = inv.halves_long;
        controls_long = length-map-range_with_len _ 0 (p.size.rows * p.size.columns);
        samples_whole = inv.samples_whole;
        samples_low = inv.samples_low;
        samples_held = inv.samples_held;
        first_long = inv.first_long;
        second_long = length-set p.second (n - 1) _ ∙ inv.second_long;
        first_graded = inv.first_graded;
        second_graded = λ j on_j. ran_at_grade p.second n j by.grade in_marks on_j.0 ∙ ap (cond (eqb n j) by.grade) (inv.second_graded j on_j);
        first_current = inv.first_current;
        first_small = inv.first_small;
        second_small = λ j. small (eqb n j) by.grade (second_grade h j) sound.graded.1 (inv.second_small j);
        second_current = λ j on_j. ran_at_current p.second n j by.grade in_marks on_j.0 ∙ ap (λ b. eqb n j || b) (inv.second_current j on_j);
        first_fit = inv.first_fit;
        all_first = λ j on_j ran i on_i. each_current (first_lines p) p.first i (held _ _ c.0) on_i;
        second_fit = λ j on_j ran part on_part.
            let k = λ (j i : ℕ). meeting p st.halves part i j in
            let x = place (by.rule (along_second p st.halves part n)) in
            let fresh = solver_fits by sound (k n) (first_lines p) (all_taken n 1 parts (λ part. along_second p st.halves part n) c.1 part on_part.0 (omega arith)) in
            refit (first_lines p) (eqb n j) _ x (λ i. meeting p st.controls part i j) (k j) by.grade (second_grade h j)
            (λ i on_i. second_fitted_at parts p by n part i j on_part on_i on_j st.halves st.controls)
            (λ e. subst (λ j. Fits (first_lines p) x (k j) by.grade) (eqb-true n j e) fresh)
            (λ e. inv.second_fit j on_j (subst (λ b. (b || ran_since h j) ≡ true) e ran) part on_part);
      }
