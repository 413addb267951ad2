-- The invariant after an accepted probe.
use Rattle.std.proofs.Common.{◌≡◌, ℕ, ◌-◌, Bool, true, false, cond, not, ◌&&◌, eqb, ltb, List, ◌∷◌, length, set, ℤ, pos, ◌*ℤ◌, nat_abs, Ok, sym, refl, ap, ◌∙◌, arith}
use Rattle.std.proofs.lemmas.List.Elements.{All-set}
use Rattle.std.proofs.lemmas.List.{length-set, length-map}
use Rattle.std.proofs.lemmas.Bool.{and_parts, not-true, cond-false}
use Rattle.std.proofs.lemmas.Bool.Decides.{nat_tests}
use Rattle.line.specs.Line.{OnLine}
use Rattle.grid.specs.Checks.{if_ok, check}
use Rattle.panel.specs.declared.record.Panel.{Panel}
use Rattle.panel.specs.declared.record.Order.{Order}
use Rattle.panel.specs.declared.record.Order.TheVariants.{RowsFirst, ColumnsFirst}
use Rattle.panel_fault.specs.declared.PanelFault.TheVariants.{Place, TooManyProbes, GridLength}
use Rattle.grid.specs.Grid.{Grid}
use Rattle.grid.specs.Sample.{part_of}
use Rattle.grid.specs.Place.{index}
use Rattle.panel.specs.Calls.{State, Answer, between, sized, pick, first_lines, second_lines, first_of, meeting, mark, let_go, parts_within, probe_answer, probed_panel, is_current}
use Rattle.panel.specs.Runs.{History}
use Rattle.panel.specs.Runs.Event.{probed}
use Rattle.panel.proofs.Places.{sample_set, meets}
use Rattle.panel.proofs.Marked.{stale_grade, stale_current, stale_at_grade, stale_at_current}
use Rattle.grid.proofs.Chains.{both_good, held}
use Rattle.panel.proofs.Passed.{between_is, Low, low_parts}
use Rattle.panel.proofs.Fits.{fits_same}
use Rattle.panel.proofs.Invariant.{Invariant, never, few_lines}

-- the state after a probe, by its answer
abbrev pub probe_taken : State → ℕ → ℕ → List ℤ → Answer → State
probe_taken st r s new a =
    record { panel = if_ok a (probed_panel st.panel r s) st.panel; samples = if_ok a (set st.samples (index st.panel.size.columns r s) new) st.samples; halves = st.halves; controls = st.controls }

on_first : (p : Panel) (r s : ℕ) → OnLine p.size.rows r → OnLine p.size.columns s → OnLine (first_lines p) (first_of p r s)
on_first p r s on_r on_s = go p.order
  where
    go : (o : Order) → OnLine (pick o p.size.rows p.size.columns) (pick o r s)
    go RowsFirst = on_r
    go ColumnsFirst = on_s

part_held : (b : Bool) (u v : List ℤ) (part : ℕ) (x : ℤ) → part_of v part ≡ x → part_of (cond b u v) part ≡ cond b (part_of u part) x
part_held true u v part x e = refl
part_held false u v part x e = e

-- a place on another first line is another place
elsewhere : (o : Order) (r s i j : ℕ) → eqb (pick o r s) i ≡ false → (eqb (pick o i j) r && eqb (pick o j i) s) ≡ false
elsewhere RowsFirst r s i j e = grind (arith, nat_tests)
elsewhere ColumnsFirst r s i j e = grind (arith, nat_tests)

module _ (parts : ℕ) (m : Grid) (st : State) (h : History) (inv : Invariant parts m st h) where
  pub after_probe : (row column : ℤ) (new : List ℤ) → length new ≡ parts → probe_answer st.panel st.samples row column new ≡ Ok tt →
      Invariant parts m (probe_taken st (nat_abs row) (nat_abs column) new (Ok tt)) (probed (nat_abs row) (nat_abs column) new ∷ h)
  after_probe row column new whole ok =
      let p = st.panel in
      let r = nat_abs row in
      let s = nat_abs column in
      let a = both_good (check (sized p st.samples) GridLength) _ ok in
      let b = both_good (check (between row 1 p.size.rows && between column 1 p.size.columns) Place) _ a.1 in
      let c = both_good (parts_within r s 1 new) (check (ltb p.probes 60000) TooManyProbes) b.1 in
      let on = and_parts (between row 1 p.size.rows) (between column 1 p.size.columns) (held _ _ b.0) in
      let on_r : OnLine p.size.rows r = between_is row 1 p.size.rows on.0 in
      let on_s : OnLine p.size.columns s = between_is column 1 p.size.columns on.1 in
      let few = few_lines p inv.rows_within inv.columns_within in
      let line = first_of p r s in
      let on_line = on_first p r s on_r on_s in
      let in_marks : OnLine (length p.first) line = omega (arith, inv.first_long) in
      let same = λ (r' s' : ℕ) (on_r' : OnLine p.size.rows r') (on_s' : OnLine p.size.columns s'). sample_set p.size.rows p.size.columns st.samples r s r' s' new inv.samples_long on_r on_s on_r' on_s' in
      record {
        rows_within = inv.rows_within;
        columns_within = inv.columns_within;
        samples_long = length-set st.samples (index p.size.columns r s) new ∙ inv.samples_long;
        halves_long = inv.halves_long;
        controls_long = inv.controls_long;
        samples_whole = All-set (λ v. length v ≡ parts) st.samples (index p.size.columns r s) new whole inv.samples_whole;
        samples_low = All-set Low st.samples (index p.size.columns r s) new (low_parts r s 1 new c.0) inv.samples_low;
        samples_held = λ part r' s' on_r' on_s'. ap (λ v. part_of v part) (same r' s' on_r' on_s') ∙ part_held (eqb r' r && eqb s' s) new _ part _ (inv.samples_held part r' s' on_r' on_s');
        first_long = length-set p.first (line - 1) _ ∙ inv.first_long;
        second_long = length-map p.second let_go ∙ inv.second_long;
        first_graded = λ i on_i. stale_at_grade p.first line i in_marks on_i.0 ∙ inv.first_graded i on_i;
        second_graded = λ j on_j. stale_grade p.second j ∙ inv.second_graded j on_j;
        first_current = λ i on_i. stale_at_current p.first line i in_marks on_i.0 ∙ ap (λ b. not (eqb line i) && b) (inv.first_current i on_i);
        first_small = inv.first_small;
        second_small = inv.second_small;
        second_current = λ j on_j. stale_current p.second j;
        first_fit = λ i on_i current part on_part.
            let t = and_parts (not (eqb line i)) (is_current (mark p.first i)) (sym (stale_at_current p.first line i in_marks on_i.0) ∙ current) in
            fits_same (second_lines p) (meeting p st.halves part i) (meeting p st.halves part i) (λ j. pos 16 *ℤ meeting p st.samples part i j) _ _ (λ j on_j. refl)
            (λ j on_j. let meet = meets p i j on_i on_j in
            ap (λ v. pos 16 *ℤ part_of v part) (same _ _ meet.0 meet.1 ∙ cond-false _ new _ (elsewhere p.order r s i j (not-true _ t.0))))
            (inv.first_fit i on_i t.1 part on_part);
        all_first = λ j _ ran. never ran;
        second_fit = λ j _ ran. never ran;
      }
