-- Places and indices of a grid lead to each other.
use Rattle.std.proofs.Common.{◌≡◌, ℕ, ◌+◌, ◌-◌, ◌*◌, ◌/◌, ◌%◌, ◌<◌, ◌≤◌, true, ◌&&◌, ltb, leb, ◌⊎◌, Some, ap, ◌∙◌, ap₂, inl, inr, mul-le-mul_left, arith}
use Rattle.std.proofs.lemmas.Nat.{mul-add-lt, div-mul-add, mod-mul-add, div-add-mod', div_below, mod_below}
use Rattle.std.proofs.lemmas.Bool.{leb-true, lt-ltb, and_parts, cond-true, cases_lt}
use Rattle.std.proofs.lemmas.Bool.Decides.{nat_tests}
use Rattle.grid.specs.declared.size.GridSize.{GridSize}
use Rattle.grid.specs.declared.size.Place.{Place}
use Rattle.grid.specs.Place.{index, on_grid, index_on, place_at, place_on}

-- the place is on the grid
pub record On (size : GridSize) (p : Place) : Type 0 where
  pub row_first : 1 ≤ p.row
  pub row_last : p.row ≤ size.rows
  pub column_first : 1 ≤ p.column
  pub column_last : p.column ≤ size.columns

pub on_tells : (size : GridSize) (p : Place) → On size p → on_grid size p ≡ true
on_tells size p on = grind (arith, nat_tests)

pub on_told : (size : GridSize) (p : Place) → on_grid size p ≡ true → On size p
on_told size p h =
    let ends = and_parts (leb 1 p.row && leb p.row size.rows) (leb 1 p.column && leb p.column size.columns) h in
    let row = and_parts (leb 1 p.row) (leb p.row size.rows) ends.0 in
    let column = and_parts (leb 1 p.column) (leb p.column size.columns) ends.1 in
    record {
      row_first = leb-true _ _ row.0;
      row_last = leb-true _ _ row.1;
      column_first = leb-true _ _ column.0;
      column_last = leb-true _ _ column.1;
    }

pub index_within : (size : GridSize) (p : Place) → On size p → index size.columns p.row p.column < size.rows * size.columns
index_within size p on =
    omega (arith, mul-add-lt (p.row - 1) size.columns (p.column - 1) size.rows (omega arith) (omega arith))

pub row_back : (columns row column : ℕ) → 1 ≤ row → 1 ≤ column → column ≤ columns → index columns row column / columns + 1 ≡ row
row_back columns row column a b c = omega (arith, div-mul-add (row - 1) columns (column - 1) (omega arith))

pub column_back : (columns row column : ℕ) → 1 ≤ row → 1 ≤ column → column ≤ columns → index columns row column % columns + 1 ≡ column
column_back columns row column a b c = omega (arith, mod-mul-add (row - 1) columns (column - 1) (omega arith))

pub index_is : (size : GridSize) (p : Place) → On size p → index_on size p ≡ Some (index size.columns p.row p.column)
index_is size p on = cond-true (on_grid size p) _ _ (on_tells size p on)

pub place_back : (size : GridSize) (p : Place) → On size p → place_on size (index size.columns p.row p.column) ≡ Some p
place_back size p on =
    cond-true (ltb (index size.columns p.row p.column) (size.rows * size.columns)) _ _ (lt-ltb _ _ (index_within size p on))
    ∙ ap₂ (λ r s. Some (record { row = r; column = s }))
    (row_back size.columns p.row p.column on.row_first on.column_first on.column_last)
    (column_back size.columns p.row p.column on.row_first on.column_first on.column_last)

pub has_columns : (size : GridSize) (k : ℕ) → k < size.rows * size.columns → 0 < size.columns
has_columns size k h = go (cases_lt 0 size.columns)
  where
    go : (0 < size.columns) ⊎ (size.columns ≤ 0) → 0 < size.columns
    go (inl some) = some
    go (inr none) = omega (arith, mul-le-mul_left size.rows none)

pub place_at_on : (size : GridSize) (k : ℕ) → k < size.rows * size.columns → On size (place_at size k)
place_at_on size k h =
    let wide = has_columns size k h in
    let d = div_below k size.columns size.rows wide h in
    let m = mod_below k size.columns wide in
    record { row_first = omega arith; row_last = omega arith; column_first = omega arith; column_last = omega arith }

pub index_back : (size : GridSize) (k : ℕ) → k < size.rows * size.columns → index_on size (place_at size k) ≡ Some k
index_back size k h =
    let row : k / size.columns + 1 - 1 ≡ k / size.columns = omega arith in
    let column : k % size.columns + 1 - 1 ≡ k % size.columns = omega arith in
    index_is size (place_at size k) (place_at_on size k h) ∙ ap Some (rw (row, column) (div-add-mod' k size.columns))
