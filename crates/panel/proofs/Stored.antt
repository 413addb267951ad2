-- A lane of a grid, stored: the grid that the definitions of the line calls give.
use Rattle.std.proofs.Common.{◌≡◌, ℕ, zero, suc, ◌+◌, ◌-◌, ◌*◌, ◌/◌, ◌%◌, ◌<◌, ◌≤◌, cond, eqb, ◌⊎◌, List, [], ◌∷◌, map, length, get_or, set, ℤ, pos, ◌*ℤ◌, sym, refl, ap, ◌∙◌, ap₂, inl, inr, mul-le-mul_right, arith}
use Rattle.std.specs.List.{range_with_len}
use Rattle.std.proofs.lemmas.Nat.{div-add-mod', div_below, mod_below}
use Rattle.std.proofs.lemmas.List.{same_lists, length-set, get_or-set_same, get_or-set_other}
use Rattle.std.proofs.lemmas.List.FromFn.{length-map-range_with_len, get_or-map-range_with_len, fill_by_all}
use Rattle.std.proofs.lemmas.Bool.{cases_eq, eq-eqb, ne_eqb, cond-true, cond-false}
use Rattle.std.proofs.lemmas.Int.{ints}
use Rattle.line.specs.Line.{OnLine, place}
use Rattle.panel.specs.declared.lane.Lane.{Lane}
use Rattle.panel.specs.declared.record.Panel.{Panel}
use Rattle.panel.specs.declared.record.Order.{Order}
use Rattle.panel.specs.declared.record.Order.TheVariants.{RowsFirst, ColumnsFirst}
use Rattle.grid.specs.Grid.{Grid, sample_at, at}
use Rattle.grid.specs.Place.{index}
use Rattle.grid.specs.Sample.{part_of}
use Rattle.panel.specs.Calls.{pick, gridded}
use Rattle.panel.specs.Lane.{row_lane, column_lane, on_lane, Inside, laned, column, rule_column, Filled, stored}
use Rattle.panel.proofs.Places.{index_within, row_back, column_back}

-- Lists counted from 0 and from 1.
pub shifted : {X : Type 0} (f h : ℕ → X) (n : ℕ) → ((e : ℕ) → e < n → f e ≡ h (e + 1)) → map f (range_with_len 0 n) ≡ map h (range_with_len 1 n)
shifted f h n same =
    let a = length-map-range_with_len f 0 n in
    let b = length-map-range_with_len h 1 n in
    same_lists (map f (range_with_len 0 n)) (map h (range_with_len 1 n)) (a ∙ sym b) (λ k d l.
    let l' : k < n = omega arith in
    get_or-map-range_with_len f 0 n k k d l' (omega arith) ∙ same k l' ∙ sym (get_or-map-range_with_len h 1 n k (k + 1) d l' (omega arith)))

-- What a stored lane holds.
module _ (l : Lane) (samples : ℕ → List ℤ) (g : Grid) where
  pub length_stored : (n : ℕ) → length (stored l samples n g) ≡ length g
  length_stored zero = refl
  length_stored (suc n) = length-set (stored l samples n g) _ _ ∙ length_stored n

  pub stored_off : (n k : ℕ) → ((e : ℕ) → e < n → k ≡ on_lane l e → ⊥) → get_or (stored l samples n g) k [] ≡ get_or g k []
  stored_off zero k off = refl
  stored_off (suc n) k off = get_or-set_other (stored l samples n g) _ k _ [] (off n (omega arith)) ∙ stored_off n k (λ e h. off e (omega arith))

  apart : 1 ≤ l.step → (e n : ℕ) → e < n → on_lane l e ≡ on_lane l n → ⊥
  apart s e n h same = let h' : e + 1 ≤ n = omega arith in omega (arith, mul-le-mul_right l.step h')

  pub stored_on : 1 ≤ l.step → (n e : ℕ) → e < n → ((e : ℕ) → e < n → on_lane l e < length g) → get_or (stored l samples n g) (on_lane l e) [] ≡ samples e
  stored_on s zero e h inside = absurd (omega arith)
  stored_on s (suc n) e h inside = go (λ l. stored_on s n e l (λ e h. inside e (omega arith))) (cases_eq e n)
    where
      go : (e < n → get_or (stored l samples n g) (on_lane l e) [] ≡ samples e) → (e ≡ n) ⊎ (e ≡ n → ⊥) → get_or (stored l samples (suc n) g) (on_lane l e) [] ≡ samples e
      go before (inl same) =
          let i : on_lane l n < length (stored l samples n g) = omega (arith, length_stored n, inside n (omega arith)) in
          rw same (get_or-set_same (stored l samples n g) (on_lane l n) (samples n) [] i)
      go before (inr other) =
          get_or-set_other (stored l samples n g) (on_lane l n) (on_lane l e) (samples n) [] (apart s e n (omega arith)) ∙ before (omega arith)

-- Samples that agree on a lane are stored alike; solved lines agree with the rule's.
pub stored_same : (l : Lane) (f h : ℕ → List ℤ) (g : Grid) (n : ℕ) → ((e : ℕ) → e < n → f e ≡ h e) → stored l f n g ≡ stored l h n g
stored_same l f h g zero same = refl
stored_same l f h g (suc n) same = ap₂ (λ t v. set t (on_lane l n) v) (stored_same l f h g n (λ e low. same e (omega arith))) (same n (omega arith))

pub columns_same : (parts n : ℕ) (rule : List ℤ → List ℤ) (lines : ℕ → List ℤ) (solved : List (List ℤ)) → Filled parts n rule lines solved →
    (e : ℕ) → e < n → column parts solved e ≡ rule_column parts rule lines e
columns_same parts n rule lines solved filled e h =
    map_range_same 0 parts (λ q. get_or (get_or solved q []) e (pos 0)) (λ q. get_or (rule (lines (q + 1))) e (pos 0)) (λ q low high. filled q e (omega arith) h)
  where
    map_range_same : (a m : ℕ) (f k : ℕ → ℤ) → ((q : ℕ) → a ≤ q → q < a + m → f q ≡ k q) → map f (range_with_len a m) ≡ map k (range_with_len a m)
    map_range_same a zero f k same = refl
    map_range_same a (suc m) f k same = ap₂ (λ x xs. x ∷ xs) (same a (omega arith) (omega arith)) (map_range_same (a + 1) m f k (λ q low high. same q (omega arith) (omega arith)))

-- A grid is made from a function if it has the function's samples.
some_columns : (rows columns k : ℕ) → k < rows * columns → 0 < columns
some_columns rows zero k h = omega arith
some_columns rows (suc columns) k h = omega arith

pub gridded_is : (p : Panel) (g : Grid) (f : ℕ → ℕ → List ℤ) → length g ≡ p.size.rows * p.size.columns →
    ((r s : ℕ) → OnLine p.size.rows r → OnLine p.size.columns s → sample_at p.size.columns g r s ≡ f r s) → g ≡ gridded p f
gridded_is p g f long same = fill_by_all (λ k. f (k / p.size.columns + 1) (k % p.size.columns + 1)) g (p.size.rows * p.size.columns) [] long (λ k h.
    let c = p.size.columns in
    let some = some_columns p.size.rows c k h in
    let a : k / c + 1 - 1 ≡ k / c = omega arith in
    let b : k % c + 1 - 1 ≡ k % c = omega arith in
    let back : index c (k / c + 1) (k % c + 1) ≡ k = rw (a, b) (div-add-mod' k c) in
    ap (λ i. get_or g i []) (sym back) ∙ same (k / c + 1) (k % c + 1) (omega (arith, div_below k c p.size.rows some h)) (omega (arith, mod_below k c some)))

-- Rows and columns as lanes.
module _ (p : Panel) (i : ℕ) where
  row_index : (e : ℕ) → on_lane (row_lane p i) e ≡ index p.size.columns i (e + 1)
  row_index e = omega arith

  column_index : (e : ℕ) → on_lane (column_lane p i) e ≡ index p.size.columns (e + 1) i
  column_index e = let m : e + 1 - 1 ≡ e = omega arith in rw m (omega arith)

  pub row_inside : OnLine p.size.rows i → Inside (row_lane p i) (p.size.rows * p.size.columns)
  row_inside on e h = rw (row_index e) (index_within p.size.rows p.size.columns i (e + 1) on (omega arith))

  pub column_inside : OnLine p.size.columns i → Inside (column_lane p i) (p.size.rows * p.size.columns)
  column_inside on e h = rw (column_index e) (index_within p.size.rows p.size.columns (e + 1) i (omega arith) on)

module _ (p : Panel) (samples : ℕ → List ℤ) (g : Grid) (long : length g ≡ p.size.rows * p.size.columns) (i r s : ℕ) (on_r : OnLine p.size.rows r) (on_s : OnLine p.size.columns s) where
  pub row_at : OnLine p.size.rows i → sample_at p.size.columns (stored (row_lane p i) samples p.size.columns g) r s ≡ cond (eqb i r) (samples (s - 1)) (sample_at p.size.columns g r s)
  row_at on = go (cases_eq i r)
    where
      go : (i ≡ r) ⊎ (i ≡ r → ⊥) → sample_at p.size.columns (stored (row_lane p i) samples p.size.columns g) r s ≡ cond (eqb i r) (samples (s - 1)) (sample_at p.size.columns g r s)
      go (inl same) =
          let m : s ≡ s - 1 + 1 = omega arith in
          let e : index p.size.columns r s ≡ on_lane (row_lane p i) (s - 1) = ap₂ (index p.size.columns) (sym same) m ∙ sym (row_index p i (s - 1)) in
          ap (λ k. get_or (stored (row_lane p i) samples p.size.columns g) k []) e
          ∙ stored_on (row_lane p i) samples g (omega arith) p.size.columns (s - 1) (omega arith) (λ e h. omega (arith, row_inside p i on e h))
          ∙ sym (cond-true (eqb i r) (samples (s - 1)) _ (eq-eqb i r same))
      go (inr other) =
          stored_off (row_lane p i) samples g p.size.columns (index p.size.columns r s) (λ e h q. other
          (sym (row_back p.size.columns i (e + 1) on.0 (omega arith)) ∙ ap (λ k. k / p.size.columns + 1) (sym (q ∙ row_index p i e)) ∙ row_back p.size.columns r s on_r.0 on_s))
          ∙ sym (cond-false (eqb i r) _ (sample_at p.size.columns g r s) (ne_eqb i r other))

  pub column_at : OnLine p.size.columns i → sample_at p.size.columns (stored (column_lane p i) samples p.size.rows g) r s ≡ cond (eqb i s) (samples (r - 1)) (sample_at p.size.columns g r s)
  column_at on = go (cases_eq i s)
    where
      go : (i ≡ s) ⊎ (i ≡ s → ⊥) → sample_at p.size.columns (stored (column_lane p i) samples p.size.rows g) r s ≡ cond (eqb i s) (samples (r - 1)) (sample_at p.size.columns g r s)
      go (inl same) =
          let m : r ≡ r - 1 + 1 = omega arith in
          let e : index p.size.columns r s ≡ on_lane (column_lane p i) (r - 1) = ap₂ (index p.size.columns) m (sym same) ∙ sym (column_index p i (r - 1)) in
          ap (λ k. get_or (stored (column_lane p i) samples p.size.rows g) k []) e
          ∙ stored_on (column_lane p i) samples g (omega arith) p.size.rows (r - 1) (omega arith) (λ e h. omega (arith, column_inside p i on e h))
          ∙ sym (cond-true (eqb i s) (samples (r - 1)) _ (eq-eqb i s same))
      go (inr other) =
          stored_off (column_lane p i) samples g p.size.rows (index p.size.columns r s) (λ e h q. other
          (sym (column_back p.size.columns (e + 1) i (omega arith) on) ∙ ap (λ k. k % p.size.columns + 1) (sym (q ∙ column_index p i e)) ∙ column_back p.size.columns r s on_r.0 on_s))
          ∙ sym (cond-false (eqb i s) _ (sample_at p.size.columns g r s) (ne_eqb i s other))

-- The samples along a lane that was solved by a rule.
module _ (parts : ℕ) (rule : List ℤ → List ℤ) (lines L : ℕ → List ℤ) (same : (part : ℕ) → lines part ≡ L part) where
  fitted_sample : (s : ℕ) → 1 ≤ s → rule_column parts rule lines (s - 1) ≡ map (λ part. place (rule (L part)) s) (range_with_len 1 parts)
  fitted_sample s on = shifted (λ q. get_or (rule (lines (q + 1))) (s - 1) (pos 0)) (λ part. place (rule (L part)) s) parts
      (λ q h. ap (λ v. get_or (rule v) (s - 1) (pos 0)) (same (q + 1)))

  module _ (p : Panel) (g : Grid) (long : length g ≡ p.size.rows * p.size.columns) (i : ℕ) where
    row_gridded : OnLine p.size.rows i →
        stored (row_lane p i) (rule_column parts rule lines) p.size.columns g ≡ gridded p (λ r s. cond (eqb i r) (map (λ part. place (rule (L part)) s) (range_with_len 1 parts)) (sample_at p.size.columns g r s))
    row_gridded on = gridded_is p _ _ (length_stored (row_lane p i) (rule_column parts rule lines) g p.size.columns ∙ long) (λ r s on_r on_s.
        row_at p (rule_column parts rule lines) g long i r s on_r on_s on ∙ ap (λ v. cond (eqb i r) v (sample_at p.size.columns g r s)) (fitted_sample s on_s.0))

    column_gridded : OnLine p.size.columns i →
        stored (column_lane p i) (rule_column parts rule lines) p.size.rows g ≡ gridded p (λ r s. cond (eqb i s) (map (λ part. place (rule (L part)) r) (range_with_len 1 parts)) (sample_at p.size.columns g r s))
    column_gridded on = gridded_is p _ _ (length_stored (column_lane p i) (rule_column parts rule lines) g p.size.rows ∙ long) (λ r s on_r on_s.
        column_at p (rule_column parts rule lines) g long i r s on_r on_s on ∙ ap (λ v. cond (eqb i s) v (sample_at p.size.columns g r s)) (fitted_sample r on_r.0))

    pub first_gridded : (o : Order) → OnLine (pick o p.size.rows p.size.columns) i →
        stored (pick o (row_lane p i) (column_lane p i)) (rule_column parts rule lines) (pick o (row_lane p i) (column_lane p i)).count g
        ≡ gridded p (λ r s. cond (eqb i (pick o r s)) (map (λ part. place (rule (L part)) (pick o s r)) (range_with_len 1 parts)) (sample_at p.size.columns g r s))
    first_gridded RowsFirst on = row_gridded on
    first_gridded ColumnsFirst on = column_gridded on

    pub second_gridded : (o : Order) → OnLine (pick o p.size.columns p.size.rows) i →
        stored (pick o (column_lane p i) (row_lane p i)) (rule_column parts rule lines) (pick o (column_lane p i) (row_lane p i)).count g
        ≡ gridded p (λ r s. cond (eqb i (pick o s r)) (map (λ part. place (rule (L part)) (pick o r s)) (range_with_len 1 parts)) (sample_at p.size.columns g r s))
    second_gridded RowsFirst on = column_gridded on
    second_gridded ColumnsFirst on = row_gridded on

-- The lines of a lane, and where it lies.
module _ (p : Panel) (g : Grid) (i part : ℕ) where
  pub first_laned : (o : Order) → laned 16 g (pick o (row_lane p i) (column_lane p i)) part ≡ map (λ j. pos 16 *ℤ at p.size.columns g part (pick o i j) (pick o j i)) (range_with_len 1 (pick o p.size.columns p.size.rows))
  first_laned RowsFirst = shifted _ _ p.size.columns (λ e h. ap (λ k. pos 16 *ℤ part_of (get_or g k []) part) (row_index p i e))
  first_laned ColumnsFirst = shifted _ _ p.size.rows (λ e h. ap (λ k. pos 16 *ℤ part_of (get_or g k []) part) (column_index p i e))

  once : (k m : ℕ) → k ≡ m → pos 1 *ℤ part_of (get_or g k []) part ≡ part_of (get_or g m []) part
  once k m e = one (part_of (get_or g k []) part) ∙ ap (λ k. part_of (get_or g k []) part) e
    where
      one : (v : ℤ) → pos 1 *ℤ v ≡ v
      one v = omega (arith, ints)

  pub second_laned : (o : Order) → laned 1 g (pick o (column_lane p i) (row_lane p i)) part ≡ map (λ j. at p.size.columns g part (pick o j i) (pick o i j)) (range_with_len 1 (pick o p.size.rows p.size.columns))
  second_laned RowsFirst = shifted _ _ p.size.rows (λ e h. once _ _ (column_index p i e))
  second_laned ColumnsFirst = shifted _ _ p.size.columns (λ e h. once _ _ (row_index p i e))

module _ (p : Panel) (i : ℕ) where
  pub first_inside : (o : Order) → OnLine (pick o p.size.rows p.size.columns) i → Inside (pick o (row_lane p i) (column_lane p i)) (p.size.rows * p.size.columns)
  first_inside RowsFirst on = row_inside p i on
  first_inside ColumnsFirst on = column_inside p i on

  pub second_inside : (o : Order) → OnLine (pick o p.size.columns p.size.rows) i → Inside (pick o (column_lane p i) (row_lane p i)) (p.size.rows * p.size.columns)
  second_inside RowsFirst on = column_inside p i on
  second_inside ColumnsFirst on = row_inside p i on
