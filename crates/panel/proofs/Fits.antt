-- Lines of points that fit other lines within a grade, as functions of the place.
use Rattle.std.proofs.Common.{◌≡◌, ℕ, zero, suc, ◌+◌, ◌-◌, ◌≤◌, Bool, true, false, cond, eqb, List, map, ℤ, pos, ◌+ℤ◌, ◌-ℤ◌, ◌*ℤ◌, nat_abs, sym, refl, ap, ◌∙◌, subst, ap₂, arith}
use Rattle.std.specs.List.{range_with_len}
use Rattle.std.proofs.lemmas.List.FromFn.{get_or-map-range_with_len, length-map-range_with_len}
use Rattle.line.specs.Line.{OnLine, place, clamped, sum_at}
use Rattle.line.specs.Solver.{Solver, Sound, Admitted}
use Rattle.panel.specs.declared.record.Panel.{Panel}
use Rattle.grid.specs.Grid.{Grid, sample_at}
use Rattle.grid.specs.Sample.{part_of}
use Rattle.panel.specs.Calls.{pick, first_lines, second_lines, first_of, second_of, meeting, along_second, fine_line, first_sample, first_fitted, second_sample, second_fitted}
use Rattle.panel.proofs.Places.{meeting_gridded, place_counted, first_back, second_back}

-- The residuals of x for k at the places of a line of n numbers are at most g.
abbrev pub Fits : ℕ → (ℕ → ℤ) → (ℕ → ℤ) → ℕ → Type 0
Fits n x k g = (j : ℕ) → OnLine n j → nat_abs (sum_at n x j -ℤ pos 6 *ℤ k j) ≤ g

-- The half points along first line i fit 16 times the samples, the control points along second line j fit the half points.
abbrev pub FirstFits : Panel → Grid → Grid → ℕ → ℕ → ℕ → Type 0
FirstFits p samples halves part i = Fits (second_lines p) (meeting p halves part i) (λ j. pos 16 *ℤ meeting p samples part i j)

abbrev pub SecondFits : Panel → Grid → Grid → ℕ → ℕ → ℕ → Type 0
SecondFits p halves controls part j = Fits (first_lines p) (λ i. meeting p controls part i j) (λ i. meeting p halves part i j)

pub on_clamped : (n j : ℕ) → 1 ≤ n → OnLine n (clamped n j)
on_clamped n j h = omega arith

-- Only the values on the line count.
pub sum_same : (n : ℕ) (x y : ℕ → ℤ) → ((j : ℕ) → OnLine n j → y j ≡ x j) → (j : ℕ) → OnLine n j → sum_at n y j ≡ sum_at n x j
sum_same n x y e j on =
    ap₂ ◌+ℤ◌ (ap₂ ◌+ℤ◌ (e _ (on_clamped n (j - 1) (omega arith))) (ap (λ v. pos 4 *ℤ v) (e j on))) (e _ (on_clamped n (j + 1) (omega arith)))

pub fits_same : (n : ℕ) (x y k l : ℕ → ℤ) (g : ℕ) → ((j : ℕ) → OnLine n j → y j ≡ x j) → ((j : ℕ) → OnLine n j → l j ≡ k j) → Fits n x k g → Fits n y l g
fits_same n x y k l g ex ek fits j on =
    subst (λ v. nat_abs v ≤ g) (sym (ap₂ ◌-ℤ◌ (sum_same n x y ex j on) (ap (λ v. pos 6 *ℤ v) (ek j on)))) (fits j on)

-- A line that was fitted anew or left.
pub refit : (n : ℕ) (b : Bool) (x fresh old k : ℕ → ℤ) (g g' : ℕ) → ((j : ℕ) → OnLine n j → x j ≡ cond b (fresh j) (old j)) →
    (b ≡ true → Fits n fresh k g) → (b ≡ false → Fits n old k g') → Fits n x k (cond b g g')
refit n true x fresh old k g g' e new left = fits_same n fresh x k k g e (λ j on. refl) (new refl)
refit n false x fresh old k g g' e new left = fits_same n old x k k g' e (λ j on. refl) (left refl)

-- What a sound solver gives for a line that it takes.
pub solver_fits : (by : Solver) → Sound by → (f : ℕ → ℤ) (n : ℕ) → Admitted (map f (range_with_len 1 n)) → Fits n (place (by.rule (map f (range_with_len 1 n)))) f by.grade
solver_fits by sound f n taken =
    let k = map f (range_with_len 1 n) in
    let long = length-map-range_with_len f 1 n in
    fits_same n (place (by.rule k)) (place (by.rule k)) (place k) f by.grade (λ j on. refl) (λ j on. sym (place_counted f n j on))
    (subst (λ n. Fits n (place (by.rule k)) (place k) by.grade) long (λ j on. sound.near k taken j on))

pub part_counted : (f : ℕ → ℤ) (n part : ℕ) → OnLine n part → part_of (map f (range_with_len 1 n)) part ≡ f part
part_counted f n zero on = absurd (omega arith)
part_counted f n (suc part) on = get_or-map-range_with_len f 1 n part (suc part) (pos 0) (omega arith) (omega arith)

part_cond : (b : Bool) (u v : List ℤ) (part : ℕ) (x : ℤ) → part_of u part ≡ x → part_of (cond b u v) part ≡ cond b x (part_of v part)
part_cond true u v part x e = e
part_cond false u v part x e = refl

-- A grid after the rule on one line.
module _ (parts : ℕ) (p : Panel) (by : Solver) (line part i j : ℕ) (on_part : OnLine parts part) (on_i : OnLine (first_lines p) i) (on_j : OnLine (second_lines p) j) where
  pub first_fitted_at : (samples halves : Grid) →
      meeting p (first_fitted parts p by samples halves line) part i j ≡ cond (eqb line i) (place (by.rule (fine_line p samples line part)) j) (meeting p halves part i j)
  first_fitted_at samples halves =
      let r = pick p.order i j in
      let s = pick p.order j i in
      let f = λ (part : ℕ). place (by.rule (fine_line p samples line part)) (second_of p r s) in
      meeting_gridded p (first_sample parts p by samples halves line) part i j on_i on_j
      ∙ part_cond (eqb line (first_of p r s)) (map f (range_with_len 1 parts)) (sample_at p.size.columns halves r s) part (f part) (part_counted f parts part on_part)
      ∙ ap₂ (λ a b. cond (eqb line a) (place (by.rule (fine_line p samples line part)) b) (meeting p halves part i j)) (first_back p.order i j) (second_back p.order i j)

  pub second_fitted_at : (halves controls : Grid) →
      meeting p (second_fitted parts p by halves controls line) part i j ≡ cond (eqb line j) (place (by.rule (along_second p halves part line)) i) (meeting p controls part i j)
  second_fitted_at halves controls =
      let r = pick p.order i j in
      let s = pick p.order j i in
      let f = λ (part : ℕ). place (by.rule (along_second p halves part line)) (first_of p r s) in
      meeting_gridded p (second_sample parts p by halves controls line) part i j on_i on_j
      ∙ part_cond (eqb line (second_of p r s)) (map f (range_with_len 1 parts)) (sample_at p.size.columns controls r s) part (f part) (part_counted f parts part on_part)
      ∙ ap₂ (λ a b. cond (eqb line b) (place (by.rule (along_second p halves part line)) a) (meeting p controls part i j)) (first_back p.order i j) (second_back p.order i j)
