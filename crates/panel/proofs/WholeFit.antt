-- A whole fit: after the checks of make no line is refused, first lines leave half points that every second line takes.
use Rattle.std.proofs.Common.{◌≡◌, ℕ, zero, suc, ◌+◌, ◌*◌, ◌<◌, ◌≤◌, Bool, true, false, cond, ◌||◌, eqb, leb, ◌⊎◌, List, [], ◌∷◌, length, ℤ, pos, ◌*ℤ◌, nat_abs, Ok, sym, refl, ap, ◌∙◌, subst, ap₂, inl, inr, add-one, arith}
use Rattle.std.specs.List.{All}
use Rattle.std.proofs.lemmas.List.Elements.{All-head, All-tail}
use Rattle.std.proofs.lemmas.List.FromFn.{length-map-range_with_len}
use Rattle.std.proofs.lemmas.List.{length-set}
use Rattle.std.proofs.lemmas.Bool.{eqb-true, eq-eqb, le-leb, cases_eq, or_left, or_right}
use Rattle.std.proofs.lemmas.Bool.Decides.{nat_tests}
use Rattle.grid.specs.Checks.{check, if_ok}
use Rattle.grid.specs.Grid.{Grid}
use Rattle.grid.proofs.Chains.{both_good, held, holds_good, over}
use Rattle.line.specs.Line.{OnLine, place}
use Rattle.line.specs.Solver.{Solver, Sound}
use Rattle.surface.proofs.Below.{below_passes}
use Rattle.panel.specs.declared.record.Panel.{Panel}
use Rattle.panel.specs.declared.record.Mark.{Mark}
use Rattle.panel_fault.specs.declared.PanelFault.TheVariants.{Size, NoLine, FirstStale, GridLength, PartBeyond}
use Rattle.panel.specs.Calls.{Answer, part_limit, between, parts_within, grid_within, first_lines, second_lines, meeting, mark, all_current, fine_line, first_answer, first_panel, first_halves, second_answer, second_panel, second_controls, is_current}
use Rattle.panel.specs.Fit.{all_ran, halves_fitted, controls_fitted, firsts_panel, seconds_panel, fit_answer, fit_panel, fit_halves, fit_controls, fitted_panel, fitted_halves, fitted_controls, firsts_ran, seconds_ran, fit_history, Fitted, FirstReady, SecondReady}
use Rattle.panel.specs.Runs.{History, Reached, ran_since}
use Rattle.panel.proofs.Bounds.{fitted_low}
use Rattle.panel.proofs.Fits.{Fits, FirstFits, refit, solver_fits, first_fitted_at}
use Rattle.panel.proofs.Invariant.{few_lines}
use Rattle.panel.proofs.Marked.{ran_at_current}
use Rattle.panel.proofs.Passed.{between_is, low_grid, Low}
use Rattle.panel.proofs.Ready.{fine_admitted, first_when, second_when, then_passed}
use Rattle.panel.proofs.Steps.{state, moved, first_reaches, second_reaches}
use Rattle.panel.proofs.Every.{invariant}
use Rattle.panel.proofs.Accepted.{first_ready}

-- The checks of make

pub ready_to_fit : (p : Panel) (samples halves controls : Grid) → fit_answer p samples halves controls ≡ Ok tt → FirstReady p samples halves × (length controls ≡ p.size.rows * p.size.columns)
ready_to_fit p samples halves controls ok =
    let a = both_good (check (between (pos p.size.rows) 2 64) Size) _ ok in
    let b = both_good (check (between (pos p.size.columns) 2 64) Size) _ a.1 in
    let c = both_good (check (eqb (length samples) (p.size.rows * p.size.columns)) GridLength) _ b.1 in
    let d = both_good (check (eqb (length halves) (p.size.rows * p.size.columns)) GridLength) _ c.1 in
    let e = both_good (check (eqb (length controls) (p.size.rows * p.size.columns)) GridLength) (grid_within p.size.columns 0 samples) d.1 in (
      record {
        rows_within = between_is (pos p.size.rows) 2 64 (held _ _ a.0);
        columns_within = between_is (pos p.size.columns) 2 64 (held _ _ b.0);
        samples_long = eqb-true _ _ (held _ _ c.0);
        halves_long = eqb-true _ _ (held _ _ d.0);
        samples_low = low_grid p.size.columns 0 samples e.1;
      },
      eqb-true _ _ (held _ _ e.0),
    )

parts_pass : (r s k : ℕ) (v : List ℤ) → Low v → parts_within r s k v ≡ Ok tt
parts_pass r s k [] low = refl
parts_pass r s k (x ∷ v) low =
    then_passed (leb (nat_abs x) part_limit) (PartBeyond r s k) (parts_within r s (k + 1) v) (le-leb _ _ (All-head (λ x. nat_abs x ≤ part_limit) x v low)) ∙ parts_pass r s (k + 1) v (All-tail (λ x. nat_abs x ≤ part_limit) x v low)

grid_passes : (columns k : ℕ) (g : Grid) → All Low g → grid_within columns k g ≡ Ok tt
grid_passes columns k [] low = refl
grid_passes columns k (v ∷ g) low = over _ (grid_within columns (k + 1) g) tt (parts_pass _ _ 1 v (All-head Low v g low)) ∙ grid_passes columns (k + 1) g (All-tail Low v g low)

number_between : (v low high : ℕ) → low ≤ v → v ≤ high → between (pos v) low high ≡ true
number_between v low high a b = grind (arith, nat_tests)

pub fit_passes : (p : Panel) (samples halves controls : Grid) → FirstReady p samples halves → length controls ≡ p.size.rows * p.size.columns → fit_answer p samples halves controls ≡ Ok tt
fit_passes p samples halves controls ready long =
    then_passed (between (pos p.size.rows) 2 64) Size _ (number_between p.size.rows 2 64 ready.rows_within.0 ready.rows_within.1)
    ∙ then_passed (between (pos p.size.columns) 2 64) Size _ (number_between p.size.columns 2 64 ready.columns_within.0 ready.columns_within.1)
    ∙ then_passed (eqb (length samples) (p.size.rows * p.size.columns)) GridLength _ (eq-eqb _ _ ready.samples_long)
    ∙ then_passed (eqb (length halves) (p.size.rows * p.size.columns)) GridLength _ (eq-eqb _ _ ready.halves_long)
    ∙ then_passed (eqb (length controls) (p.size.rows * p.size.columns)) GridLength _ (eq-eqb _ _ long)
    ∙ grid_passes p.size.columns 0 samples ready.samples_low

-- The numbers of a turn: what a call was given, and what the loop holds.
turn : {X : Type 0} (F : Panel → Grid → ℤ → X) {q q' : Panel} {g g' : Grid} (z : ℤ) (n : ℕ) → q ≡ q' → g ≡ g' → z ≡ pos (n + 1) → F q g z ≡ F q' g' (pos (suc n))
turn F {q} {q'} {g} {g'} z n e f is = ap₂ (λ q g. F q g z) e f ∙ ap (F q' g') (is ∙ ap pos (add-one n))

-- First lines

module _ (parts : ℕ) (p : Panel) (by : Solver) (samples halves : Grid) (ready : FirstReady p samples halves) where
  halves_long : (n : ℕ) → length (halves_fitted parts p by samples halves n) ≡ p.size.rows * p.size.columns
  halves_long zero = ready.halves_long
  halves_long (suc n) = length-map-range_with_len _ 0 (p.size.rows * p.size.columns)

  ready_after : (n : ℕ) → FirstReady (firsts_panel p by n) samples (halves_fitted parts p by samples halves n)
  ready_after n = record { rows_within = ready.rows_within; columns_within = ready.columns_within; samples_long = ready.samples_long; halves_long = halves_long n; samples_low = ready.samples_low }

  pub first_runs : (n : ℕ) → n < first_lines p → first_answer parts (firsts_panel p by n) samples (halves_fitted parts p by samples halves n) (pos (suc n)) ≡ Ok tt
  first_runs n low =
      first_when parts (firsts_panel p by n) samples (halves_fitted parts p by samples halves n) (ready_after n) (pos (suc n))
      ∙ holds_good (between (pos (suc n)) 1 (first_lines p)) NoLine (number_between (suc n) 1 (first_lines p) (omega arith) (omega arith))

  pub first_runs_panel : (n : ℕ) → n < first_lines p → first_panel parts (firsts_panel p by n) by samples (halves_fitted parts p by samples halves n) (pos (suc n)) ≡ firsts_panel p by (suc n)
  first_runs_panel n low = rw (first_runs n low) refl

  pub first_runs_halves : (n : ℕ) → n < first_lines p → first_halves parts (firsts_panel p by n) by samples (halves_fitted parts p by samples halves n) (pos (suc n)) ≡ halves_fitted parts p by samples halves (suc n)
  first_runs_halves n low = rw (first_runs n low) refl

  -- one turn of the loop
  module _ (q : Panel) (g : Grid) (z : ℤ) (n : ℕ) (is_q : q ≡ firsts_panel p by n) (is_g : g ≡ halves_fitted parts p by samples halves n) (is_z : z ≡ pos (n + 1)) (low : n < first_lines p) where
    pub first_turn : first_answer parts q samples g z ≡ Ok tt
    first_turn = turn (λ q g z. first_answer parts q samples g z) z n is_q is_g is_z ∙ first_runs n low

    pub first_turn_panel : first_panel parts q by samples g z ≡ firsts_panel p by (n + 1)
    first_turn_panel = turn (λ q g z. first_panel parts q by samples g z) z n is_q is_g is_z ∙ first_runs_panel n low ∙ ap (firsts_panel p by) (sym (add-one n))

    pub first_turn_halves : first_halves parts q by samples g z ≡ halves_fitted parts p by samples halves (n + 1)
    first_turn_halves = turn (λ q g z. first_halves parts q by samples g z) z n is_q is_g is_z ∙ first_runs_halves n low ∙ ap (halves_fitted parts p by samples halves) (sym (add-one n))

  -- Each first line that ran fits.
  fits_after : Sound by → (part : ℕ) → OnLine parts part → (n : ℕ) → n ≤ first_lines p → (i : ℕ) → OnLine n i → FirstFits p samples (halves_fitted parts p by samples halves n) part i by.grade
  fits_after sound part on_part zero few i on = absurd (omega arith)
  fits_after sound part on_part (suc n) few i on =
      let k = λ (i j : ℕ). pos 16 *ℤ meeting p samples part i j in
      let x = place (by.rule (fine_line p samples (suc n) part)) in
      let old = halves_fitted parts p by samples halves n in
      let fresh = solver_fits by sound (k (suc n)) (second_lines p) (fine_admitted p samples halves ready (suc n) part) in
      same (eqb (suc n) i) by.grade
      (refit (second_lines p) (eqb (suc n) i) _ x (meeting p old part i) (k i) by.grade by.grade
      (λ j on_j. first_fitted_at parts p by (suc n) part i j on_part (omega arith) on_j samples old)
      (λ e. subst (λ i. Fits (second_lines p) x (k i) by.grade) (eqb-true (suc n) i e) fresh)
      (λ e. fits_after sound part on_part n (omega arith) i (earlier n i on e)))
    where
      same : (b : Bool) (g : ℕ) → FirstFits p samples (halves_fitted parts p by samples halves (suc n)) part i (cond b g g) → FirstFits p samples (halves_fitted parts p by samples halves (suc n)) part i g
      same true g fits = fits
      same false g fits = fits

      earlier : (n i : ℕ) → OnLine (suc n) i → eqb (suc n) i ≡ false → OnLine n i
      earlier n i on e = grind (arith, nat_tests)

-- The last line, or an earlier one.
last_or : (n j : ℕ) (b : Bool) → OnLine (suc n) j → (OnLine n j → b ≡ true) → (eqb (suc n) j || b) ≡ true
last_or n j b on before = go (cases_eq (suc n) j)
  where
    go : (suc n ≡ j) ⊎ (suc n ≡ j → ⊥) → (eqb (suc n) j || b) ≡ true
    go (inl same) = or_left (eqb (suc n) j) b (eq-eqb (suc n) j same)
    go (inr other) = or_right (eqb (suc n) j) b (before (omega arith))

-- Marks after lines 1 to n ran.
module _ (ks : List Mark) (g : ℕ) where
  ran_long : (n : ℕ) → length (all_ran ks g n) ≡ length ks
  ran_long zero = refl
  ran_long (suc n) = length-set (all_ran ks g n) _ _ ∙ ran_long n

  pub ran_current : (n i : ℕ) → n ≤ length ks → OnLine n i → is_current (mark (all_ran ks g n) i) ≡ true
  ran_current zero i few on = absurd (omega arith)
  ran_current (suc n) i few on =
      ran_at_current (all_ran ks g n) (suc n) i g (omega (arith, ran_long n)) on.0
      ∙ last_or n i (is_current (mark (all_ran ks g n) i)) on (λ before. ran_current n i (omega arith) before)

  pub all_ran_current : (n : ℕ) → n ≤ length ks → all_current n (all_ran ks g n) ≡ true
  all_ran_current n few = below_passes n (λ i. is_current (mark (all_ran ks g n) (i + 1))) (λ i low. ran_current n (i + 1) few (omega arith))

-- Second lines

pub ready_for_second : (parts : ℕ) (p : Panel) (by : Solver) → Sound by → (samples halves controls : Grid) → FirstReady p samples halves → length controls ≡ p.size.rows * p.size.columns →
    SecondReady parts (firsts_panel p by (first_lines p)) (halves_fitted parts p by samples halves (first_lines p)) controls
ready_for_second parts p by sound samples halves controls ready long = record {
  rows_within = ready.rows_within;
  columns_within = ready.columns_within;
  halves_long = halves_long parts p by samples halves ready (first_lines p);
  controls_long = long;
  halves_low = λ _ part on_part i j on_i on_j.
      fitted_low p samples (halves_fitted parts p by samples halves (first_lines p)) part i by.grade ready.samples_low sound.graded.1
      (fits_after parts p by samples halves ready sound part on_part (first_lines p) (omega arith) i on_i) j on_j;
}

module _ (parts : ℕ) (p : Panel) (by : Solver) (halves controls : Grid) (ready : SecondReady parts p halves controls) (current : all_current (first_lines p) p.first ≡ true) where
  controls_long : (n : ℕ) → length (controls_fitted parts p by halves controls n) ≡ p.size.rows * p.size.columns
  controls_long zero = ready.controls_long
  controls_long (suc n) = length-map-range_with_len _ 0 (p.size.rows * p.size.columns)

  pub second_runs : (n : ℕ) → n < second_lines p → second_answer parts (seconds_panel p by n) halves (controls_fitted parts p by halves controls n) (pos (suc n)) ≡ Ok tt
  second_runs n low =
      second_when parts (seconds_panel p by n) halves (controls_fitted parts p by halves controls n)
      (record { rows_within = ready.rows_within; columns_within = ready.columns_within; halves_long = ready.halves_long; controls_long = controls_long n; halves_low = ready.halves_low }) (pos (suc n))
      ∙ then_passed (between (pos (suc n)) 1 (second_lines p)) NoLine _ (number_between (suc n) 1 (second_lines p) (omega arith) (omega arith))
      ∙ holds_good (all_current (first_lines p) p.first) FirstStale current

  pub second_runs_panel : (n : ℕ) → n < second_lines p → second_panel parts (seconds_panel p by n) by halves (controls_fitted parts p by halves controls n) (pos (suc n)) ≡ seconds_panel p by (suc n)
  second_runs_panel n low = rw (second_runs n low) refl

  pub second_runs_controls : (n : ℕ) → n < second_lines p → second_controls parts (seconds_panel p by n) by halves (controls_fitted parts p by halves controls n) (pos (suc n)) ≡ controls_fitted parts p by halves controls (suc n)
  second_runs_controls n low = rw (second_runs n low) refl

  -- one turn of the loop
  module _ (q : Panel) (g : Grid) (z : ℤ) (n : ℕ) (is_q : q ≡ seconds_panel p by n) (is_g : g ≡ controls_fitted parts p by halves controls n) (is_z : z ≡ pos (n + 1)) (low : n < second_lines p) where
    pub second_turn : second_answer parts q halves g z ≡ Ok tt
    second_turn = turn (λ q g z. second_answer parts q halves g z) z n is_q is_g is_z ∙ second_runs n low

    pub second_turn_panel : second_panel parts q by halves g z ≡ seconds_panel p by (n + 1)
    second_turn_panel = turn (λ q g z. second_panel parts q by halves g z) z n is_q is_g is_z ∙ second_runs_panel n low ∙ ap (seconds_panel p by) (sym (add-one n))

    pub second_turn_controls : second_controls parts q by halves g z ≡ controls_fitted parts p by halves controls (n + 1)
    second_turn_controls = turn (λ q g z. second_controls parts q by halves g z) z n is_q is_g is_z ∙ second_runs_controls n low ∙ ap (controls_fitted parts p by halves controls) (sym (add-one n))

-- A fit is a run of line calls.

module _ (parts : ℕ) (made : Grid) (by : Solver) (sound : Sound by) (p : Panel) (samples halves controls : Grid) (h : History) (reached : Reached parts made (state p samples halves controls) h) where
  pub firsts_reach : FirstReady p samples halves → (n : ℕ) → n ≤ first_lines p →
      Reached parts made (state (firsts_panel p by n) samples (halves_fitted parts p by samples halves n) controls) (firsts_ran by n h)
  firsts_reach ready zero few = reached
  firsts_reach ready (suc n) few =
      first_reaches parts made (firsts_ran by n h) (firsts_panel p by n) samples (halves_fitted parts p by samples halves n) controls (firsts_reach ready n (omega arith)) by sound (pos (suc n)) (Ok tt) _ _
      (sym (first_runs parts p by samples halves ready n (omega arith))) (sym (first_runs_panel parts p by samples halves ready n (omega arith))) (sym (first_runs_halves parts p by samples halves ready n (omega arith)))

  pub seconds_reach : SecondReady parts p halves controls → all_current (first_lines p) p.first ≡ true → (n : ℕ) → n ≤ second_lines p →
      Reached parts made (state (seconds_panel p by n) samples halves (controls_fitted parts p by halves controls n)) (seconds_ran by n h)
  seconds_reach ready current zero few = reached
  seconds_reach ready current (suc n) few =
      second_reaches parts made (seconds_ran by n h) (seconds_panel p by n) samples halves (controls_fitted parts p by halves controls n) (seconds_reach ready current n (omega arith)) by sound (pos (suc n)) (Ok tt) _ _
      (sym (second_runs parts p by halves controls ready current n (omega arith))) (sym (second_runs_panel parts p by halves controls ready current n (omega arith))) (sym (second_runs_controls parts p by halves controls ready current n (omega arith)))

pub seconds_ran_since : (by : Solver) (h : History) (n j : ℕ) → OnLine n j → ran_since (seconds_ran by n h) j ≡ true
seconds_ran_since by h zero j on = absurd (omega arith)
seconds_ran_since by h (suc n) j on = last_or n j (ran_since (seconds_ran by n h) j) on (seconds_ran_since by h n j)

module _ (parts : ℕ) (made : Grid) (first : Solver) (first_sound : Sound first) (second : Solver) (second_sound : Sound second)
    (p : Panel) (samples halves controls : Grid) (h : History) (reached : Reached parts made (state p samples halves controls) h) where
  ready : FirstReady p samples halves
  ready = first_ready parts made (state p samples halves controls) h reached

  passes : fit_answer p samples halves controls ≡ Ok tt
  passes = fit_passes p samples halves controls ready (invariant reached).controls_long

  fit_reached : Reached parts made (state (fitted_panel p first second) samples (fitted_halves parts p first samples halves) (fitted_controls parts p first second samples halves controls)) (fit_history p first second h)
  fit_reached =
      let inv = invariant reached in
      let few = few_lines p inv.rows_within inv.columns_within in
      let q = firsts_panel p first (first_lines p) in
      let current = all_ran_current p.first first.grade (first_lines p) (omega (arith, inv.first_long)) in
      seconds_reach parts made second second_sound q samples (fitted_halves parts p first samples halves) controls (firsts_ran first (first_lines p) h)
      (firsts_reach parts made first first_sound p samples halves controls h reached ready (first_lines p) (omega arith))
      (ready_for_second parts p first first_sound samples halves controls ready inv.controls_long) current (second_lines p) (omega arith)

  pub fit_reaches : (r : Answer) (p' : Panel) (halves' controls' : Grid) → r ≡ fit_answer p samples halves controls → p' ≡ fit_panel p first second samples halves controls →
      halves' ≡ fit_halves parts p first samples halves controls → controls' ≡ fit_controls parts p first second samples halves controls →
      Fitted parts made (state p' samples halves' controls') (fit_history p first second h) r
  fit_reaches r p' halves' controls' is_r is_p is_halves is_controls =
      let panel : p' ≡ fitted_panel p first second = is_p ∙ ap (λ a. if_ok a (fitted_panel p first second) p) passes in
      let half = is_halves ∙ ap (λ a. if_ok a (fitted_halves parts p first samples halves) halves) passes in
      let control = is_controls ∙ ap (λ a. if_ok a (fitted_controls parts p first second samples halves controls) controls) passes in
      record {
        accepted = is_r ∙ passes;
        reached = moved (ap₂ (λ q half. state q samples half controls') panel half ∙ ap (state (fitted_panel p first second) samples (fitted_halves parts p first samples halves)) control) refl fit_reached;
        ran = λ j on. seconds_ran_since second (firsts_ran first (first_lines p) h) (second_lines p) j (subst (λ q. OnLine (second_lines q) j) panel on);
      }
