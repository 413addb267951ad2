-- When every line can run: a line call is refused only for its number or a stale first line.
use Rattle.std.proofs.Common.{◌≡◌, ℕ, zero, suc, ◌+◌, ◌<◌, ◌≤◌, Bool, true, false, ◌&&◌, eqb, leb, List, [], ◌∷◌, map, length, get_or, ℤ, pos, ◌*ℤ◌, nat_abs, Ok, Err, Result, sym, refl, ap, ◌∙◌, subst, le_trans, arith}
use Rattle.std.specs.List.{range_with_len, All}
use Rattle.std.proofs.lemmas.List.FromFn.{length-map-range_with_len}
use Rattle.std.proofs.lemmas.List.Elements.{All-from_get_or, All-head, All-tail}
use Rattle.std.proofs.lemmas.Int.{ints}
use Rattle.std.proofs.lemmas.Bool.{cond-true, le-leb, eq-eqb, and_from, false≢true}
use Rattle.std.specs.Result.{result_and}
use Rattle.line.specs.Line.{OnLine}
use Rattle.line.specs.Solver.{Admitted, limit}
use Rattle.line.specs.Solve.{solve_answer, first_beyond}
use Rattle.line.specs.declared.solver.SolveFault.TheVariants.{Beyond}
use Rattle.panel_fault.specs.declared.PanelFault.{PanelFault}
use Rattle.panel_fault.specs.declared.PanelFault.TheVariants.{NoLine, FirstStale, GridLength}
use Rattle.grid.specs.Grid.{Grid}
use Rattle.panel.specs.Calls.{Answer, between, sized, first_lines, second_lines, meeting, along_second, fine_line, all_current, solver_took, solver_takes, first_answer, second_answer}
use Rattle.grid.specs.Checks.{check}
use Rattle.panel.specs.Runs.{first_refusals}
use Rattle.panel.specs.Fit.{FirstReady, SecondReady}
use Rattle.panel.specs.declared.record.Panel.{Panel}
use Rattle.panel.proofs.Places.{place_counted}
use Rattle.panel.proofs.Passed.{between_is, low_at}
use Rattle.panel.proofs.Invariant.{few_lines}

none_beyond : (j : ℕ) (k : List ℤ) → All (λ x. nat_abs x ≤ limit) k → first_beyond j k ≡ Ok tt
none_beyond j [] h = refl
none_beyond j (x ∷ k) h = cond-true (leb (nat_abs x) limit) (first_beyond (j + 1) k) (Err (Beyond j)) (le-leb _ _ (All-head (λ x. nat_abs x ≤ limit) x k h)) ∙ none_beyond (j + 1) k (All-tail (λ x. nat_abs x ≤ limit) x k h)

takes : (k : List ℤ) → Admitted k → solve_answer k (length k) ≡ Ok tt
takes k t =
    cond-true (leb 2 (length k) && leb (length k) 64) _ _ (and_from _ _ (le-leb _ _ t.low) (le-leb _ _ t.high)) ∙ cond-true (eqb (length k) (length k)) _ _ (eq-eqb _ _ refl)
    ∙ none_beyond 1 k (All-from_get_or (λ x. nat_abs x ≤ limit) k (pos 0) (λ i h. subst (λ n. nat_abs (get_or k n (pos 0)) ≤ limit) (omega arith) (t.small (i + 1) (omega arith))))

all_take : (line k n : ℕ) (lines : ℕ → List ℤ) → ((part : ℕ) → k ≤ part → part < k + n → Admitted (lines part)) → solver_takes line k n lines ≡ Ok tt
all_take line k zero lines h = refl
all_take line k (suc n) lines h =
    ap (λ a. result_and (solver_took line k a) (solver_takes line (k + 1) n lines)) (takes (lines k) (h k (omega arith) (omega arith)))
    ∙ all_take line (k + 1) n lines (λ part low high. h part (omega arith) (omega arith))

-- A line made from a function with values within the range.
line_taken : (f : ℕ → ℤ) (n b : ℕ) → 2 ≤ n → n ≤ 64 → b ≤ limit → ((j : ℕ) → OnLine n j → nat_abs (f j) ≤ b) → Admitted (map f (range_with_len 1 n))
line_taken f n b some few low h =
    let long = length-map-range_with_len f 1 n in
    record {
      low = omega arith;
      high = omega arith;
      small = λ j on. subst (λ v. nat_abs v ≤ limit) (sym (place_counted f n j (omega arith))) (le_trans (h j (omega arith)) low);
    }

pub sixteen_low : (v : ℤ) → nat_abs v ≤ 100000 → nat_abs (pos 16 *ℤ v) ≤ 1600000
sixteen_low v h = omega (arith, ints)

-- Sixteen times the samples along a first line.
pub fine_admitted : (p : Panel) (samples halves : Grid) → FirstReady p samples halves → (i part : ℕ) → Admitted (fine_line p samples i part)
fine_admitted p samples halves ready i part =
    let few = few_lines p ready.rows_within ready.columns_within in
    line_taken (λ j. pos 16 *ℤ meeting p samples part i j) (second_lines p) 1600000 few.1.0 few.1.1 (omega arith)
    (λ j on. sixteen_low (meeting p samples part i j) (low_at p.size.columns samples part _ _ ready.samples_low))

-- checks that are passed, and checks that follow one
pub then_passed : {A : Type 0} (b : Bool) (e : PanelFault) (next : Result A PanelFault) → b ≡ true → result_and (check b e) next ≡ next
then_passed true e next h = refl
then_passed false e next h = absurd (false≢true h)

then_same : (b : Bool) (e : PanelFault) (next next' : Answer) → (b ≡ true → next ≡ next') → result_and (check b e) next ≡ result_and (check b e) next'
then_same true e next next' h = h refl
then_same false e next next' h = refl

then_last : (b : Bool) (e : PanelFault) (next : Answer) → (b ≡ true → next ≡ Ok tt) → result_and (check b e) next ≡ check b e
then_last true e next h = h refl
then_last false e next h = refl

-- Sizes, lengths and samples as make admits them let every first line run.
pub first_when : (parts : ℕ) (p : Panel) (samples halves : Grid) → FirstReady p samples halves → (i : ℤ) → first_answer parts p samples halves i ≡ first_refusals p i
first_when parts p samples halves ready i =
    let few = few_lines p ready.rows_within ready.columns_within in
    then_passed (sized p samples && sized p halves) GridLength _ (and_from _ _ (eq-eqb _ _ ready.samples_long) (eq-eqb _ _ ready.halves_long))
    ∙ then_last (between i 1 (first_lines p)) NoLine (solver_takes (nat_abs i) 1 parts (fine_line p samples (nat_abs i)))
    (λ _. all_take (nat_abs i) 1 parts (fine_line p samples (nat_abs i)) (λ part low high. fine_admitted p samples halves ready (nat_abs i) part))

-- Half points that are low once all first lines are current let every second line run then.
pub second_when : (parts : ℕ) (p : Panel) (halves controls : Grid) → SecondReady parts p halves controls → (j : ℤ) →
    second_answer parts p halves controls j ≡ result_and (check (between j 1 (second_lines p)) NoLine) (check (all_current (first_lines p) p.first) FirstStale)
second_when parts p halves controls ready j =
    let few = few_lines p ready.rows_within ready.columns_within in
    let along = λ (part : ℕ). along_second p halves part (nat_abs j) in
    then_passed (sized p halves && sized p controls) GridLength _ (and_from _ _ (eq-eqb _ _ ready.halves_long) (eq-eqb _ _ ready.controls_long))
    ∙ then_same (between j 1 (second_lines p)) NoLine _ _ (λ on.
    then_last (all_current (first_lines p) p.first) FirstStale (solver_takes (nat_abs j) 1 parts along) (λ current. all_take (nat_abs j) 1 parts along
    (λ part low high. line_taken (λ i. meeting p halves part i (nat_abs j)) (first_lines p) 4800006 few.0.0 few.0.1 (omega arith)
    (λ i on_i. ready.halves_low current part (omega arith) i (nat_abs j) on_i (between_is j 1 (second_lines p) on)))))
