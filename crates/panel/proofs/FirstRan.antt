-- The invariant after an accepted first line.
use Rattle.std.proofs.Common.{◌≡◌, ℕ, ◌-◌, ◌*◌, true, cond, ◌&&◌, ◌||◌, eqb, ◌∷◌, length, ℤ, pos, ◌*ℤ◌, nat_abs, Ok, sym, ap, ◌∙◌, subst, arith}
use Rattle.std.proofs.lemmas.List.FromFn.{length-map-range_with_len}
use Rattle.std.proofs.lemmas.List.{length-set, length-map}
use Rattle.std.proofs.lemmas.Bool.{eqb-true}
use Rattle.line.specs.Line.{OnLine, place}
use Rattle.grid.specs.Checks.{if_ok, check}
use Rattle.line.specs.Solver.{Solver, Sound}
use Rattle.panel_fault.specs.declared.PanelFault.TheVariants.{NoLine, GridLength}
use Rattle.grid.specs.Grid.{Grid}
use Rattle.panel.specs.Calls.{State, Answer, between, sized, first_lines, second_lines, meeting, mark, let_go, solver_takes, fine_line, first_answer, first_fitted, first_ran_panel, is_current}
use Rattle.panel.specs.Runs.{History, first_grade}
use Rattle.panel.specs.Runs.Event.{first_ran}
use Rattle.panel.proofs.Marked.{stale_grade, stale_current, ran_at_grade, ran_at_current}
use Rattle.grid.proofs.Chains.{both_good, held}
use Rattle.panel.proofs.Passed.{between_is, all_taken}
use Rattle.panel.proofs.Fits.{Fits, refit, solver_fits, first_fitted_at}
use Rattle.panel.proofs.Invariant.{Invariant, never, small, few_lines}

-- the state after a first line, by its answer
abbrev pub first_taken : ℕ → Solver → State → ℕ → Answer → State
first_taken parts by st i a =
    record { panel = if_ok a (first_ran_panel st.panel i by.grade) st.panel; samples = st.samples; halves = if_ok a (first_fitted parts st.panel by st.samples st.halves i) st.halves; controls = st.controls }

module _ (parts : ℕ) (m : Grid) (st : State) (h : History) (inv : Invariant parts m st h) where
  pub after_first : (by : Solver) → Sound by → (line : ℤ) → first_answer parts st.panel st.samples st.halves line ≡ Ok tt →
      Invariant parts m (first_taken parts by st (nat_abs line) (Ok tt)) (first_ran (nat_abs line) by ∷ h)
  after_first by sound line ok =
      let p = st.panel in
      let n = nat_abs line in
      let a = both_good (check (sized p st.samples && sized p st.halves) GridLength) _ ok in
      let b = both_good (check (between line 1 (first_lines p)) NoLine) (solver_takes n 1 parts (fine_line p st.samples n)) a.1 in
      let on : OnLine (first_lines p) n = between_is line 1 (first_lines p) (held _ _ b.0) in
      let few = few_lines p inv.rows_within inv.columns_within in
      let in_marks : OnLine (length p.first) n = omega (arith, inv.first_long) in
      record {
        rows_within = inv.rows_within;
        columns_within = inv.columns_within;
        samples_long = inv.samples_long;
        halves_long = length-map-range_with_len _ 0 (p.size.rows * p.size.columns);
        controls_long = inv.controls_long;
        samples_whole = inv.samples_whole;
        samples_low = inv.samples_low;
        samples_held = inv.samples_held;
        first_long = length-set p.first (n - 1) _ ∙ inv.first_long;
        second_long = length-map p.second let_go ∙ inv.second_long;
        first_graded = λ i on_i. ran_at_grade p.first n i by.grade in_marks on_i.0 ∙ ap (cond (eqb n i) by.grade) (inv.first_graded i on_i);
        second_graded = λ j on_j. stale_grade p.second j ∙ inv.second_graded j on_j;
        first_current = λ i on_i. ran_at_current p.first n i by.grade in_marks on_i.0 ∙ ap (λ b. eqb n i || b) (inv.first_current i on_i);
        first_small = λ i. small (eqb n i) by.grade (first_grade h i) sound.graded.1 (inv.first_small i);
        second_small = inv.second_small;
        second_current = λ j on_j. stale_current p.second j;
        first_fit = λ i on_i current part on_part.
            let k = λ (i j : ℕ). pos 16 *ℤ meeting p st.samples part i j in
            let x = place (by.rule (fine_line p st.samples n part)) in
            let fresh = solver_fits by sound (k n) (second_lines p) (all_taken n 1 parts (fine_line p st.samples n) b.1 part on_part.0 (omega arith)) in
            refit (second_lines p) (eqb n i) _ x (meeting p st.halves part i) (k i) by.grade (first_grade h i)
            (λ j on_j. first_fitted_at parts p by n part i j on_part on_i on_j st.samples st.halves)
            (λ e. subst (λ i. Fits (second_lines p) x (k i) by.grade) (eqb-true n i e) fresh)
            (λ e. inv.first_fit i on_i (subst (λ b. (b || is_current (mark p.first i)) ≡ true) e (sym (ran_at_current p.first n i by.grade in_marks on_i.0) ∙ current)) part on_part);
        all_first = λ j _ ran. never ran;
        second_fit = λ j _ ran. never ran;
      }
