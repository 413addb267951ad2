-- The line calls, from what their parts ensure to what their definitions say.
use Rattle.std.proofs.Common.{◌≡◌, ℕ, ◌*◌, ◌&&◌, List, map, length, ℤ, nat_abs, Ok, Err, sym, refl, ap, ◌∙◌, subst}
use mathlib.Core.Path.{fun_ext}
use Rattle.std.proofs.lemmas.List.{length-map}
use Rattle.std.proofs.lemmas.Bool.{eqb-true, and_parts}
use Rattle.std.specs.Result.{result_and}
use Rattle.line.specs.Line.{OnLine}
use Rattle.line.specs.Solver.{Solver}
use Rattle.panel.specs.declared.lane.Lane.{Lane}
use Rattle.panel.specs.declared.record.Panel.{Panel}
use Rattle.panel_fault.specs.declared.PanelFault.{PanelFault}
use Rattle.panel_fault.specs.declared.PanelFault.TheVariants.{GridLength, NoLine, FirstStale}
use Rattle.grid.specs.Grid.{Grid}
use Rattle.panel.specs.Calls.{Answer, between, sized, all_current, first_lines, second_lines, solver_takes, fine_line, along_second, first_fitted, second_fitted, first_answer, second_answer}
use Rattle.grid.specs.Checks.{check}
use Rattle.panel.specs.Lane.{first_lane, second_lane, Inside, laned, rule_column, stored}
use Rattle.grid.proofs.Chains.{both_good, held, over, stop}
use Rattle.panel.proofs.Passed.{between_is}
use Rattle.panel.proofs.Stored.{first_gridded, second_gridded, first_laned, second_laned, first_inside, second_inside}

-- Three checks one after another, the first two taken as one.
pub then_after : (a b next : Answer) → result_and a (result_and b next) ≡ result_and (result_and a b) next
then_after (Ok u) b next = refl
then_after (Err e) b next = refl

-- The checks before the solver's own.
abbrev pub asked : Panel → Grid → Grid → ℤ → ℕ → Answer
asked p xs ys v lines = result_and (check (sized p xs && sized p ys) GridLength) (check (between v 1 lines) NoLine)

pub record Numbered {K : Type 0} (p : Panel) (xs ys : List K) (v : ℤ) (lines : ℕ) : Type 0 where
  pub on : OnLine lines (nat_abs v)
  pub long_xs : length xs ≡ p.size.rows * p.size.columns
  pub long_ys : length ys ≡ p.size.rows * p.size.columns

pub numbered : {K : Type 0} (f : K → List ℤ) (p : Panel) (xs ys : List K) (v : ℤ) (lines : ℕ) → asked p (map f xs) (map f ys) v lines ≡ Ok tt → Numbered p xs ys v lines
numbered f p xs ys v lines ok =
    let t = both_good (check (sized p (map f xs) && sized p (map f ys)) GridLength) (check (between v 1 lines) NoLine) ok in
    let n = and_parts (sized p (map f xs)) (sized p (map f ys)) (held _ GridLength t.0) in
    record {
      on = between_is v 1 lines (held _ NoLine t.1);
      long_xs = sym (length-map xs f) ∙ eqb-true (length (map f xs)) (p.size.rows * p.size.columns) n.0;
      long_ys = sym (length-map ys f) ∙ eqb-true (length (map f ys)) (p.size.rows * p.size.columns) n.1;
    }

-- Past them, what the solver takes is the answer; a second line also asks that the first lines are current.
module _ (parts : ℕ) (p : Panel) (xs ys : Grid) (v : ℤ) where
  pub first_past : asked p xs ys v (first_lines p) ≡ Ok tt → first_answer parts p xs ys v ≡ solver_takes (nat_abs v) 1 parts (fine_line p xs (nat_abs v))
  first_past ok =
      then_after (check (sized p xs && sized p ys) GridLength) (check (between v 1 (first_lines p)) NoLine) (solver_takes (nat_abs v) 1 parts (fine_line p xs (nat_abs v)))
      ∙ over (asked p xs ys v (first_lines p)) _ tt ok

  pub first_out : (e : PanelFault) → asked p xs ys v (first_lines p) ≡ Err e → first_answer parts p xs ys v ≡ Err e
  first_out e refused =
      then_after (check (sized p xs && sized p ys) GridLength) (check (between v 1 (first_lines p)) NoLine) (solver_takes (nat_abs v) 1 parts (fine_line p xs (nat_abs v)))
      ∙ stop (asked p xs ys v (first_lines p)) _ e refused

  pub second_out : (e : PanelFault) → asked p xs ys v (second_lines p) ≡ Err e → second_answer parts p xs ys v ≡ Err e
  second_out e refused =
      then_after (check (sized p xs && sized p ys) GridLength) (check (between v 1 (second_lines p)) NoLine) _ ∙ stop (asked p xs ys v (second_lines p)) _ e refused

  pub second_stale : (e : PanelFault) → asked p xs ys v (second_lines p) ≡ Ok tt → check (all_current (first_lines p) p.first) FirstStale ≡ Err e → second_answer parts p xs ys v ≡ Err e
  second_stale e ok stale =
      then_after (check (sized p xs && sized p ys) GridLength) (check (between v 1 (second_lines p)) NoLine) _
      ∙ over (asked p xs ys v (second_lines p)) _ tt ok ∙ stop (check (all_current (first_lines p) p.first) FirstStale) _ e stale

  pub second_past : asked p xs ys v (second_lines p) ≡ Ok tt → check (all_current (first_lines p) p.first) FirstStale ≡ Ok tt →
      second_answer parts p xs ys v ≡ solver_takes (nat_abs v) 1 parts (λ part. along_second p xs part (nat_abs v))
  second_past ok fresh =
      then_after (check (sized p xs && sized p ys) GridLength) (check (between v 1 (second_lines p)) NoLine) _
      ∙ over (asked p xs ys v (second_lines p)) _ tt ok ∙ over (check (all_current (first_lines p) p.first) FirstStale) _ tt fresh

-- Where the lane of a line lies, what the solver takes along it, and the grid with it stored.
module _ (p : Panel) (number : ℕ) (l : Lane) (m : ℕ) (long : m ≡ p.size.rows * p.size.columns) where
  pub first_within : l ≡ first_lane p number → OnLine (first_lines p) number → Inside l m
  first_within e on = rw (e, long) (first_inside p number p.order on)

  pub second_within : l ≡ second_lane p number → OnLine (second_lines p) number → Inside l m
  second_within e on = rw (e, long) (second_inside p number p.order on)

module _ (parts : ℕ) (p : Panel) (g : Grid) (i number : ℕ) (l : Lane) (is : number ≡ i) where
  pub first_takes : l ≡ first_lane p number → solver_takes number 1 parts (laned 16 g l) ≡ solver_takes i 1 parts (fine_line p g i)
  first_takes e = ap (λ l. solver_takes number 1 parts (laned 16 g l)) e ∙ ap (λ i. solver_takes i 1 parts (laned 16 g (first_lane p i))) is
      ∙ ap (solver_takes i 1 parts) (fun_ext (λ part. first_laned p g i part p.order))

  pub second_takes : l ≡ second_lane p number → solver_takes number 1 parts (laned 1 g l) ≡ solver_takes i 1 parts (λ part. along_second p g part i)
  second_takes e = ap (λ l. solver_takes number 1 parts (laned 1 g l)) e ∙ ap (λ i. solver_takes i 1 parts (laned 1 g (second_lane p i))) is
      ∙ ap (solver_takes i 1 parts) (fun_ext (λ part. second_laned p g i part p.order))

  module _ (by : Solver) (target : Grid) (long : length target ≡ p.size.rows * p.size.columns) where
    pub first_stored : l ≡ first_lane p number → OnLine (first_lines p) number → stored l (rule_column parts by.rule (laned 16 g l)) l.count target ≡ first_fitted parts p by g target i
    first_stored e on =
        ap (λ l. stored l (rule_column parts by.rule (laned 16 g l)) l.count target) (e ∙ ap (first_lane p) is)
        ∙ first_gridded parts by.rule (laned 16 g (first_lane p i)) (fine_line p g i) (λ part. first_laned p g i part p.order) p target long i p.order (subst (OnLine (first_lines p)) is on)

    pub second_stored : l ≡ second_lane p number → OnLine (second_lines p) number → stored l (rule_column parts by.rule (laned 1 g l)) l.count target ≡ second_fitted parts p by g target i
    second_stored e on =
        ap (λ l. stored l (rule_column parts by.rule (laned 1 g l)) l.count target) (e ∙ ap (second_lane p) is)
        ∙ second_gridded parts by.rule (laned 1 g (second_lane p i)) (λ part. along_second p g part i) (λ part. second_laned p g i part p.order) p target long i p.order (subst (OnLine (second_lines p)) is on)
