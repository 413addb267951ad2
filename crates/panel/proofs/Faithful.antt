-- An answered reading is faithful to the held samples.
use Rattle.std.proofs.Common.{◌≡◌, ℕ, ◌+◌, ◌-◌, ◌*◌, ◌/◌, ◌<◌, ◌≤◌, Bool, true, false, List, map, ℤ, pos, ◌-ℤ◌, ◌*ℤ◌, nat_abs, Ok, Result, sym, refl, ◌∙◌, subst, ap₂, subst₂, le_trans, arith}
use Rattle.std.specs.List.{range_with_len}
use Rattle.std.proofs.lemmas.Int.{ints}
use Rattle.std.proofs.lemmas.Bool.{le-leb, eq-eqb}
use Rattle.std.proofs.lemmas.Bool.Decides.{nat_tests}
use Rattle.std.specs.Result.{result_and}
use Rattle.line.specs.Line.{OnLine, clamped, sum_at}
use Rattle.surface.specs.Surface.{ExactGrid, Near, patch_sum}
use Rattle.line.specs.Doubled.{doubled_crosses}
use Rattle.line.proofs.Doubled.{doubled, doubled_solvable}
use Rattle.surface.proofs.Grids.{turned}
use Rattle.surface.proofs.GridLaws.{some_grid, one_grid, rows_then_column, columns_then_row, doubled_rule}
use Rattle.surface.proofs.Readings.{reading_near, patch_on_sample, sample_near, sums_near}
use Rattle.panel.specs.declared.record.Panel.{Panel}
use Rattle.panel.specs.declared.record.Order.{Order}
use Rattle.panel.specs.declared.record.Order.TheVariants.{RowsFirst, ColumnsFirst}
use Rattle.panel_fault.specs.declared.PanelFault.{PanelFault}
use Rattle.panel_fault.specs.declared.PanelFault.TheVariants.{OutsideArea, SecondStale, GridLength, ControlBeyond}
use Rattle.grid.specs.Grid.{Grid, at}
use Rattle.grid.specs.Sample.{part_of}
use Rattle.panel.specs.Calls.{State, sized, pick, first_lines, second_lines, meeting}
use Rattle.grid.specs.Checks.{check}
use Rattle.panel.specs.Reading.{InArea, in_area, needed, needed_current, needed_within, around, reading, tolerance, read_answer, shown}
use Rattle.panel.specs.Runs.{History, Reached, held, ran_since, first_grade, first_most, second_most, Faithful, ReadsFaithfully, OneSurface}
use Rattle.panel.proofs.Places.{meets}
use Rattle.panel.proofs.Fits.{part_counted}
use Rattle.panel.proofs.Ready.{then_passed}
use Rattle.panel.proofs.Invariant.{Invariant}
use Rattle.panel.proofs.Every.{invariant}
use Rattle.panel.proofs.Needed.{around_by, on_needed, needed_ran, needed_stale, tolerance_is, needed_below_most, first_below_most}
use Rattle.panel.proofs.Bounds.{controls_low}
use Rattle.surface.proofs.Rounded.{rounded_near}
use Rattle.surface.proofs.Below.{below_passes}

-- In either order, the control points along one second line are near those of every exact grid.
control_near : (o : Order) (rows columns : ℕ) (sample half control x : ℕ → ℕ → ℤ) (d j g₁ g₂ : ℕ) → 2 ≤ rows → 2 ≤ columns → ExactGrid sum_at rows columns sample x d → OnLine (pick o columns rows) j →
    ((i e : ℕ) → OnLine (pick o rows columns) i → OnLine (pick o columns rows) e →
    nat_abs (sum_at (pick o columns rows) (λ e. half (pick o i e) (pick o e i)) e -ℤ pos 96 *ℤ sample (pick o i e) (pick o e i)) ≤ g₁) →
    ((i : ℕ) → OnLine (pick o rows columns) i → nat_abs (sum_at (pick o rows columns) (λ i. control (pick o i j) (pick o j i)) i -ℤ pos 6 *ℤ half (pick o i j) (pick o j i)) ≤ g₂) →
    (i : ℕ) → OnLine (pick o rows columns) i → 2 * nat_abs (pos d *ℤ control (pick o i j) (pick o j i) -ℤ x (pick o i j) (pick o j i)) ≤ (g₂ + 3 * g₁) * d
control_near RowsFirst rows columns sample half control x d j g₁ g₂ some_row some_column exact on first second =
    rows_then_column doubled_rule doubled_crosses rows columns some_row some_column sample half x d j g₁ g₂ (λ i. control i j) exact on first second
control_near ColumnsFirst rows columns sample half control x d j g₁ g₂ some_row some_column exact on first second =
    columns_then_row doubled_rule doubled_crosses rows columns some_row some_column sample half x d j g₁ g₂ (λ i. control j i) exact on (λ t s on_t on_s. first s t on_s on_t) second

-- In either order, the sums at a grid place are near the sample.
nine_near : (o : Order) (rows columns x y r s : ℕ) (sample half control : ℕ → ℕ → ℤ) (g₁ g₂ : ℕ) → OnLine rows r → OnLine columns s → x ≡ 32 * r → y ≡ 32 * s →
    ((i j : ℕ) → OnLine (pick o rows columns) i → OnLine (pick o columns rows) j →
    nat_abs (sum_at (pick o columns rows) (λ e. half (pick o i e) (pick o e i)) j -ℤ pos 96 *ℤ sample (pick o i j) (pick o j i)) ≤ g₁) →
    ((k : ℕ) → k < 4 → (i : ℕ) → OnLine (pick o rows columns) i →
    nat_abs (sum_at (pick o rows columns) (λ i. control (pick o i (clamped (pick o columns rows) (pick o y x / 32 + k - 1))) (pick o (clamped (pick o columns rows) (pick o y x / 32 + k - 1)) i)) i
    -ℤ pos 6 *ℤ half (pick o i (clamped (pick o columns rows) (pick o y x / 32 + k - 1))) (pick o (clamped (pick o columns rows) (pick o y x / 32 + k - 1)) i)) ≤ g₂) →
    nat_abs (sum_at rows (λ i. sum_at columns (control i) s) r -ℤ pos 576 *ℤ sample r s) ≤ 6 * (g₁ + g₂)
nine_near RowsFirst rows columns x y r s sample half control g₁ g₂ on_r on_s ex ey first second =
    let whole : y / 32 ≡ s = omega arith in
    sums_near rows columns control half r s g₁ g₂ (sample r s) on_s (first r s on_r on_s)
    (λ b low. subst (λ z. nat_abs (sum_at rows (λ i. control i (clamped columns (z + b - 1))) r -ℤ pos 6 *ℤ half r (clamped columns (z + b - 1))) ≤ g₂) whole (second b (omega arith) r on_r))
nine_near ColumnsFirst rows columns x y r s sample half control g₁ g₂ on_r on_s ex ey first second =
    let whole : x / 32 ≡ r = omega arith in
    rw (turned (doubled rows) (doubled_crosses columns) control r s)
    (sums_near columns rows (λ s i. control i s) (λ s i. half i s) s r g₁ g₂ (sample r s) on_r (first s r on_s on_r)
    (λ b low. subst (λ z. nat_abs (sum_at columns (control (clamped rows (z + b - 1))) s -ℤ pos 6 *ℤ half (clamped rows (z + b - 1)) s) ≤ g₂) whole (second b (omega arith) s on_s)))

module _ (parts : ℕ) (m : Grid) (st : State) (h : History) (inv : Invariant parts m st h) (x y : ℕ) (area : InArea st.panel x y)
    (ran : (a : ℕ) → a < 4 → ran_since h (needed st.panel x y a) ≡ true) (part : ℕ) (on_part : OnLine parts part) where
  first_near : (i j : ℕ) → OnLine (first_lines st.panel) i → OnLine (second_lines st.panel) j →
      nat_abs (sum_at (second_lines st.panel) (meeting st.panel st.halves part i) j
      -ℤ pos 96 *ℤ held st.panel.size.columns m h part (pick st.panel.order i j) (pick st.panel.order j i)) ≤ first_most st.panel h
  first_near i j on_i on_j =
      let p = st.panel in
      let meet = meets p i j on_i on_j in
      let current = inv.all_first (needed p x y 0) (on_needed parts m st h inv x y 0) (ran 0 (omega arith)) i on_i in
      step (sum_at (second_lines p) (meeting p st.halves part i) j) _ _ (first_grade h i) (first_most p h) (inv.first_fit i on_i current part on_part j on_j)
      (inv.samples_held part (pick p.order i j) (pick p.order j i) meet.0 meet.1) (first_below_most parts m st h inv x y i on_i)
    where
      step : (s v w : ℤ) (g g' : ℕ) → nat_abs (s -ℤ pos 6 *ℤ (pos 16 *ℤ v)) ≤ g → v ≡ w → g ≤ g' → nat_abs (s -ℤ pos 96 *ℤ w) ≤ g'
      step s v w g g' a e b = omega (arith, ints)

  second_near : (a : ℕ) → a < 4 → (i : ℕ) → OnLine (first_lines st.panel) i →
      nat_abs (sum_at (first_lines st.panel) (λ i. meeting st.panel st.controls part i (needed st.panel x y a)) i
      -ℤ pos 6 *ℤ meeting st.panel st.halves part i (needed st.panel x y a)) ≤ second_most st.panel h x y
  second_near a a_low i on_i =
      le_trans (inv.second_fit (needed st.panel x y a) (on_needed parts m st h inv x y a) (ran a a_low) part on_part i on_i) (needed_below_most parts m st h inv x y a a_low)

  near_surface : (n : ℕ → ℕ → ℤ) (d : ℕ) → ExactGrid sum_at st.panel.size.rows st.panel.size.columns (held st.panel.size.columns m h part) n d →
      Near st.panel.size.rows st.panel.size.columns n d x y (reading st.panel st.controls x y part) (second_most st.panel h x y + 3 * first_most st.panel h + 1)
  near_surface n d exact =
      let p = st.panel in
      let control = at p.size.columns st.controls part in
      let g₁ = first_most p h in
      let g₂ = second_most p h x y in
      reading_near p.size.rows p.size.columns control n d x y (g₂ + 3 * g₁) (reading p st.controls x y part)
      (around_by p.order p.size.rows p.size.columns x y (λ r s. 2 * nat_abs (pos d *ℤ control r s -ℤ n r s) ≤ (g₂ + 3 * g₁) * d) (omega (arith, inv.rows_within)) (omega (arith, inv.columns_within))
      (λ i k on_i k_low. control_near p.order p.size.rows p.size.columns (held p.size.columns m h part) (at p.size.columns st.halves part) control n d (needed p x y k) g₁ g₂
      inv.rows_within.0 inv.columns_within.0 exact (on_needed parts m st h inv x y k) first_near (second_near k k_low) i on_i))
      (rounded_near (patch_sum p.size.rows p.size.columns control x y))

  near_sample : (r s : ℕ) → x ≡ 32 * r → y ≡ 32 * s →
      6 * nat_abs (reading st.panel st.controls x y part -ℤ pos 16 *ℤ held st.panel.size.columns m h part r s) ≤ second_most st.panel h x y + first_most st.panel h + 3
  near_sample r s ex ey =
      let p = st.panel in
      let control = at p.size.columns st.controls part in
      let on_r : OnLine p.size.rows r = omega arith in
      let on_s : OnLine p.size.columns s = omega arith in
      let g₁ = first_most p h in
      let g₂ = second_most p h x y in
      swapped g₁ g₂
      (sample_near (sum_at p.size.rows (λ i. sum_at p.size.columns (control i) s) r) (patch_sum p.size.rows p.size.columns control x y) (reading p st.controls x y part) (held p.size.columns m h part r s) (g₁ + g₂)
      (patch_on_sample p.size.rows p.size.columns control x y r s ex ey on_r on_s)
      (nine_near p.order p.size.rows p.size.columns x y r s (held p.size.columns m h part) (at p.size.columns st.halves part) control g₁ g₂ on_r on_s ex ey first_near second_near)
      (rounded_near (patch_sum p.size.rows p.size.columns control x y)))
    where
      swapped : (a b : ℕ) {n : ℕ} → n ≤ a + b + 3 → n ≤ b + a + 3
      swapped a b h = omega arith

-- The whole law

area_passed : (p : Panel) (x y : ℕ) → InArea p x y → in_area p (pos x) (pos y) ≡ true
area_passed p x y area = grind (arith, nat_tests)

module _ (parts : ℕ) (m : Grid) (st : State) (h : History) (inv : Invariant parts m st h) (x y : ℕ) (area : InArea st.panel x y)
    (ran : (a : ℕ) → a < 4 → ran_since h (needed st.panel x y a) ≡ true) where
  within : needed_within parts st.panel st.controls x y ≡ true
  unfolding needed_within
  within =
      let p = st.panel in
      below_passes parts _ (λ k k_low. below_passes 4 _ (λ a a_low. below_passes 4 _ (λ b b_low.
      le-leb (nat_abs (around p st.controls (k + 1) x y a b)) 16000000
      (around_by p.order p.size.rows p.size.columns x y (λ r s. nat_abs (at p.size.columns st.controls (k + 1) r s) ≤ 16000000) (omega (arith, inv.rows_within)) (omega (arith, inv.columns_within))
      (λ i q on_i q_low. le_trans (controls_low parts m st h inv (k + 1) (omega arith) (needed p x y q) (on_needed parts m st h inv x y q) (ran q q_low) i on_i) (omega arith)) a b a_low b_low))))

  faithful : Faithful parts st.panel m h x y (part_of (map (reading st.panel st.controls x y) (range_with_len 1 parts))) (tolerance st.panel x y)
  faithful =
      let p = st.panel in
      record {
        ran = ran;
        stated = tolerance_is parts m st h inv x y;
        has_surface = λ part on_part. some_grid doubled_rule doubled_solvable p.size.rows p.size.columns inv.rows_within.0 inv.columns_within.0 (held p.size.columns m h part);
        near_surface = λ part on_part n d exact.
            subst₂ (λ value t. Near p.size.rows p.size.columns n d x y value t) (sym (part_counted (reading p st.controls x y) parts part on_part)) (sym (tolerance_is parts m st h inv x y))
            (near_surface parts m st h inv x y area ran part on_part n d exact);
        near_sample = λ r s ex ey part on_part.
            subst (λ value. 6 * nat_abs (value -ℤ pos 16 *ℤ held p.size.columns m h part r s) ≤ second_most p h x y + first_most p h + 3) (sym (part_counted (reading p st.controls x y) parts part on_part))
            (near_sample parts m st h inv x y area ran part on_part r s ex ey);
      }

-- After any calls, at any place in the area.
read_law : (parts : ℕ) (m : Grid) (st : State) (h : History) (x y : ℕ) → Reached parts m st h → InArea st.panel x y →
    ReadsFaithfully parts st.panel m h x y (read_answer parts st.panel st.controls (pos x) (pos y))
read_law parts m st h x y reached area =
    subst owed (sym (then_passed (sized p st.controls) GridLength _ (eq-eqb _ _ inv.controls_long) ∙ then_passed (in_area p (pos x) (pos y)) OutsideArea _ (area_passed p x y area)))
    (decide (needed_current p x y) refl)
  where
    p : Panel
    p = st.panel

    inv : Invariant parts m st h
    inv = invariant reached

    owed : Result (List ℤ × ℕ) PanelFault → Type 0
    owed = ReadsFaithfully parts p m h x y

    answer : Result (List ℤ × ℕ) PanelFault
    answer = Ok (map (reading p st.controls x y) (range_with_len 1 parts), tolerance p x y)

    decide : (b : Bool) → needed_current p x y ≡ b → owed (result_and (check b SecondStale) (result_and (check (needed_within parts p st.controls x y) ControlBeyond) answer))
    decide false e = (refl, needed_stale parts m st h inv x y e)
    decide true e =
        let ran = needed_ran parts m st h inv x y e in
        subst owed (sym (then_passed (needed_within parts p st.controls x y) ControlBeyond answer (within parts m st h inv x y area ran))) (faithful parts m st h inv x y area ran)

-- The same of an answer in any kind of sample whose parts f shows.
pub read_faithful : {K : Type 0} (f : K → List ℤ) (parts : ℕ) (m : Grid) (st : State) (h : History) (u v : ℕ) (x y : ℤ) (r : Result (K × ℕ) PanelFault) →
    shown f r ≡ read_answer parts st.panel st.controls x y → x ≡ pos u → y ≡ pos v → Reached parts m st h → InArea st.panel u v →
    ReadsFaithfully parts st.panel m h u v (shown f r)
read_faithful f parts m st h u v x y r shows ex ey reached area =
    subst (ReadsFaithfully parts st.panel m h u v) (sym (shows ∙ ap₂ (read_answer parts st.panel st.controls) ex ey)) (read_law parts m st h u v reached area)

-- Samples of every size from 2 by 2 on have exactly one surface.
pub one_surface : (rows columns : ℕ) → 2 ≤ rows → 2 ≤ columns → (sample : ℕ → ℕ → ℤ) → OneSurface rows columns sample
one_surface rows columns some_row some_column sample = record {
  some = some_grid doubled_rule doubled_solvable rows columns some_row some_column sample;
  one = one_grid doubled_rule rows columns some_row some_column sample;
}
