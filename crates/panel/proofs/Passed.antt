-- What an accepted call says of its checks.
use Rattle.std.proofs.Common.{◌≡◌, ℕ, zero, suc, ◌+◌, ◌*◌, ◌/◌, ◌%◌, ◌<◌, ◌≤◌, true, ◌&&◌, leb, List, [], ◌∷◌, length, get_or, ℤ, pos, nat_abs, Ok, Err, Result, refl, subst, inl, inr, arith, rules}
use Rattle.std.specs.List.{All}
use Rattle.std.proofs.lemmas.List.Elements.{All-nil, All-cons, All-head, All-tail}
use Rattle.std.proofs.lemmas.Int.{ints}
use Rattle.std.proofs.lemmas.Bool.{leb-true, eqb-true, and_parts, cases_eq}
use Rattle.std.proofs.lemmas.Bool.Decides.{nat_tests}
use Rattle.grid.specs.Checks.{check}
use Rattle.grid.specs.Grid.{Grid, sample_at, at}
use Rattle.grid.specs.Place.{index}
use Rattle.grid.proofs.Chains.{both_good, held}
use Rattle.line.specs.Line.{OnLine}
use Rattle.line.specs.Solver.{Admitted}
use Rattle.line.specs.Solve.{solve_answer}
use Rattle.line.specs.declared.solver.SolveFault.{SolveFault}
use Rattle.line.proofs.Accepted.{accepted}
use Rattle.panel.specs.declared.record.Panel.{Panel}
use Rattle.panel_fault.specs.declared.PanelFault.TheVariants.{GridLength, Place}
use Rattle.panel.specs.Calls.{part_limit, between, sized, parts_within, grid_within, solver_took, solver_takes, probe_answer}
use Rattle.panel.proofs.Places.{index_within}

pub between_is : (v : ℤ) (low high : ℕ) → between v low high ≡ true → (low ≤ nat_abs v) × (nat_abs v ≤ high)
between_is v low high h = grind (arith, ints, nat_tests)

-- Parts and samples within the limit.
abbrev pub Low : List ℤ → Type 0
Low = All (λ x. nat_abs x ≤ part_limit)

pub low_parts : (r s k : ℕ) (v : List ℤ) → parts_within r s k v ≡ Ok tt → Low v
low_parts r s k [] h = All-nil (λ x. nat_abs x ≤ part_limit)
low_parts r s k (x ∷ v) h =
    let t = both_good (check (leb (nat_abs x) part_limit) _) (parts_within r s (k + 1) v) h in
    All-cons (λ x. nat_abs x ≤ part_limit) x v (leb-true (nat_abs x) part_limit (held _ _ t.0)) (low_parts r s (k + 1) v t.1)

pub low_grid : (columns k : ℕ) (g : Grid) → grid_within columns k g ≡ Ok tt → All Low g
low_grid columns k [] h = All-nil Low
low_grid columns k (v ∷ g) h =
    let t = both_good (parts_within (k / columns + 1) (k % columns + 1) 1 v) (grid_within columns (k + 1) g) h in
    All-cons Low v g (low_parts _ _ _ v t.0) (low_grid columns (k + 1) g t.1)

-- 0 stands past the end of a list, so a bound on its elements needs no place.
within_any : (b : ℕ) (v : List ℤ) (k : ℕ) → All (λ x. nat_abs x ≤ b) v → nat_abs (get_or v k (pos 0)) ≤ b
within_any b [] k h = omega arith
within_any b (x ∷ v) zero h = All-head (λ x. nat_abs x ≤ b) x v h
within_any b (x ∷ v) (suc k) h = within_any b v k (All-tail (λ x. nat_abs x ≤ b) x v h)

low_any : (g : Grid) (k : ℕ) → All Low g → Low (get_or g k [])
low_any [] k h = All-nil (λ x. nat_abs x ≤ part_limit)
low_any (v ∷ g) zero h = All-head Low v g h
low_any (v ∷ g) (suc k) h = low_any g k (All-tail Low v g h)

pub low_at : (columns : ℕ) (g : Grid) (part r s : ℕ) → All Low g → nat_abs (at columns g part r s) ≤ part_limit
low_at columns g zero r s h = omega arith
low_at columns g (suc part) r s h = within_any part_limit (sample_at columns g r s) part (low_any g _ h)

-- A line that a solver took.
pub took : (line part : ℕ) (a : Result (Unit {0}) SolveFault) → solver_took line part a ≡ Ok tt → a ≡ Ok tt
took line part (Ok u) h = refl
took line part (Err e) h = search rules

pub all_taken : (line k n : ℕ) (lines : ℕ → List ℤ) → solver_takes line k n lines ≡ Ok tt → (part : ℕ) → k ≤ part → part < k + n → Admitted (lines part)
all_taken line k zero lines h part low high = absurd (omega arith)
all_taken line k (suc n) lines h part low high =
    let t = both_good (solver_took line k (solve_answer (lines k) (length (lines k)))) (solver_takes line (k + 1) n lines) h in
    elim (cases_eq k part) [
      | inl e ↦ subst (λ part. Admitted (lines part)) e (accepted (lines k) (length (lines k)) (took line k _ t.0)).admitted
      | inr e ↦ all_taken line (k + 1) n lines t.1 part (omega arith) (omega arith)
    ]

-- Where an accepted probe stands.
pub record Probing (p : Panel) (samples : Grid) (row column : ℤ) : Type 0 where
  pub on_row : OnLine p.size.rows (nat_abs row)
  pub on_column : OnLine p.size.columns (nat_abs column)
  pub within : index p.size.columns (nat_abs row) (nat_abs column) < length samples

pub probing : (p : Panel) (samples : Grid) (row column : ℤ) (new : List ℤ) → probe_answer p samples row column new ≡ Ok tt → Probing p samples row column
probing p samples row column new ok =
    let a = both_good (check (sized p samples) GridLength) _ ok in
    let b = both_good (check (between row 1 p.size.rows && between column 1 p.size.columns) Place) _ a.1 in
    let on = and_parts (between row 1 p.size.rows) (between column 1 p.size.columns) (held _ _ b.0) in
    let on_r = between_is row 1 p.size.rows on.0 in
    let on_s = between_is column 1 p.size.columns on.1 in
    let long = eqb-true (length samples) (p.size.rows * p.size.columns) (held _ _ a.0) in
    record { on_row = on_r; on_column = on_s; within = omega (arith, index_within p.size.rows p.size.columns (nat_abs row) (nat_abs column) on_r on_s) }
