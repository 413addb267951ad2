-- The invariant after an accepted make.
use Rattle.std.proofs.Common.{◌≡◌, ℕ, zero, suc, ◌-◌, ◌*◌, eqb, [], length, get_or, replicate, ℤ, nat_abs, Ok, sym, refl, ap, ◌∙◌, arith}
use Rattle.std.specs.List.{All}
use Rattle.std.proofs.lemmas.Bool.{eqb-true}
use Rattle.panel.specs.declared.record.Order.{Order}
use Rattle.panel_fault.specs.declared.PanelFault.TheVariants.{Size, GridLength}
use Rattle.grid.specs.Grid.{Grid}
use Rattle.grid.specs.Checks.{check}
use Rattle.panel.specs.Calls.{between, grid_within, make_answer, new_panel, grade_of, is_current}
use Rattle.grid.proofs.Chains.{both_good, held}
use Rattle.panel.proofs.Passed.{between_is, low_grid}
use Rattle.panel.proofs.Invariant.{Invariant, never}
use Rattle.panel.specs.declared.record.Mark.TheVariants.{Unrun}

unrun_mark : (n k : ℕ) → get_or (replicate n Unrun) k Unrun ≡ Unrun
unrun_mark zero k = refl
unrun_mark (suc n) zero = refl
unrun_mark (suc n) (suc k) = unrun_mark n k

pub from_make : (parts : ℕ) (m : Grid) (rows columns : ℤ) (o : Order) (halves controls : Grid) → make_answer rows columns m halves controls ≡ Ok tt → All (λ v. length v ≡ parts) m →
    Invariant parts m (record { panel = new_panel rows columns o; samples = m; halves = halves; controls = controls }) []
from_make parts m rows columns o halves controls ok whole =
    let a = both_good (check (between rows 2 64) Size) _ ok in
    let b = both_good (check (between columns 2 64) Size) _ a.1 in
    let c = both_good (check (eqb (length m) (nat_abs rows * nat_abs columns)) GridLength) _ b.1 in
    let d = both_good (check (eqb (length halves) (nat_abs rows * nat_abs columns)) GridLength) _ c.1 in
    let e = both_good (check (eqb (length controls) (nat_abs rows * nat_abs columns)) GridLength) (grid_within (nat_abs columns) 0 m) d.1 in
    record {
      rows_within = between_is rows 2 64 (held _ _ a.0);
      columns_within = between_is columns 2 64 (held _ _ b.0);
      samples_long = eqb-true _ _ (held _ _ c.0);
      halves_long = eqb-true _ _ (held _ _ d.0);
      controls_long = eqb-true _ _ (held _ _ e.0);
      samples_whole = whole;
      samples_low = low_grid (nat_abs columns) 0 m e.1;
      samples_held = λ part r s _ _. refl;
      first_long = refl;
      second_long = refl;
      first_graded = λ i _. ap grade_of (unrun_mark 64 (i - 1));
      second_graded = λ j _. ap grade_of (unrun_mark 64 (j - 1));
      first_current = λ i _. ap is_current (unrun_mark 64 (i - 1));
      first_small = λ i. omega arith;
      second_small = λ j. omega arith;
      second_current = λ j _. ap is_current (unrun_mark 64 (j - 1));
      first_fit = λ i _ current. never (sym (ap is_current (unrun_mark 64 (i - 1))) ∙ current);
      all_first = λ j _ ran. never ran;
      second_fit = λ j _ ran. never ran;
    }
