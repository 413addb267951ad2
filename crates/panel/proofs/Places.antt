-- Samples at the places of a grid.
use Rattle.std.proofs.Common.{◌≡◌, ℕ, ◌+◌, ◌-◌, ◌*◌, ◌/◌, ◌%◌, ◌<◌, ◌≤◌, cond, ◌&&◌, eqb, ◌⊎◌, List, [], map, length, get_or, set, ℤ, pos, sym, refl, ap, ◌∙◌, ap₂, inl, inr, arith}
use Rattle.std.specs.List.{range_with_len}
use Rattle.std.proofs.lemmas.Nat.{mul-add-lt, div-mul-add, mod-mul-add}
use Rattle.std.proofs.lemmas.List.FromFn.{get_or-map-range_with_len}
use Rattle.std.proofs.lemmas.List.{get_or-set_same, get_or-set_other}
use Rattle.std.proofs.lemmas.Bool.{cases_eq, eq-eqb, ne_eqb, cond-true, cond-false}
use Rattle.std.proofs.lemmas.Bool.Decides.{nat_tests}
use Rattle.line.specs.Line.{OnLine, place}
use Rattle.panel.specs.declared.record.Panel.{Panel}
use Rattle.panel.specs.declared.record.Order.{Order}
use Rattle.panel.specs.declared.record.Order.TheVariants.{RowsFirst, ColumnsFirst}
use Rattle.grid.specs.Grid.{Grid, sample_at}
use Rattle.grid.specs.Sample.{part_of}
use Rattle.grid.specs.Place.{index}
use Rattle.panel.specs.Calls.{pick, first_lines, second_lines, meeting, gridded}

-- Places have indices within the grid, and different ones.
pub index_within : (rows columns r s : ℕ) → OnLine rows r → OnLine columns s → index columns r s < rows * columns
index_within rows columns r s on_r on_s = omega (arith, mul-add-lt (r - 1) columns (s - 1) rows (omega arith) (omega arith))

pub row_back : (columns r s : ℕ) → 1 ≤ r → OnLine columns s → index columns r s / columns + 1 ≡ r
row_back columns r s h on = omega (arith, div-mul-add (r - 1) columns (s - 1) (omega arith))

pub column_back : (columns r s : ℕ) → 1 ≤ r → OnLine columns s → index columns r s % columns + 1 ≡ s
column_back columns r s h on = omega (arith, mod-mul-add (r - 1) columns (s - 1) (omega arith))

-- A grid made from a function has its values.
pub sample_gridded : (p : Panel) (f : ℕ → ℕ → List ℤ) (r s : ℕ) → OnLine p.size.rows r → OnLine p.size.columns s → sample_at p.size.columns (gridded p f) r s ≡ f r s
sample_gridded p f r s on_r on_s =
    let k = index p.size.columns r s in
    get_or-map-range_with_len (λ k. f (k / p.size.columns + 1) (k % p.size.columns + 1)) 0 (p.size.rows * p.size.columns) k k [] (index_within p.size.rows p.size.columns r s on_r on_s) (omega arith)
    ∙ ap₂ f (row_back p.size.columns r s on_r.0 on_s) (column_back p.size.columns r s on_r.0 on_s)

-- A list with one element changed.
pub get_or-set : {X : Type 0} (xs : List X) (i j : ℕ) (v d : X) → i < length xs → get_or (set xs i v) j d ≡ cond (eqb j i) v (get_or xs j d)
get_or-set xs i j v d h = go (cases_eq j i)
  where
    go : (j ≡ i) ⊎ (j ≡ i → ⊥) → get_or (set xs i v) j d ≡ cond (eqb j i) v (get_or xs j d)
    go (inl e) = ap (λ j. get_or (set xs i v) j d) e ∙ get_or-set_same xs i v d h ∙ sym (cond-true (eqb j i) v (get_or xs j d) (eq-eqb j i e))
    go (inr e) = get_or-set_other xs i j v d e ∙ sym (cond-false (eqb j i) v (get_or xs j d) (ne_eqb j i e))

index_same : (columns r' s' r s : ℕ) → 1 ≤ r' → OnLine columns s' → 1 ≤ r → OnLine columns s → eqb (index columns r s) (index columns r' s') ≡ (eqb r r' && eqb s s')
index_same columns r' s' r s h' on' h on =
    let a = row_back columns r s h on in
    let b = column_back columns r s h on in
    let a' = row_back columns r' s' h' on' in
    let b' = column_back columns r' s' h' on' in
    grind (arith, nat_tests)

-- A grid with one sample changed.
pub sample_set : (rows columns : ℕ) (g : Grid) (r' s' r s : ℕ) (new : List ℤ) → length g ≡ rows * columns →
    OnLine rows r' → OnLine columns s' → OnLine rows r → OnLine columns s →
    sample_at columns (set g (index columns r' s') new) r s ≡ cond (eqb r r' && eqb s s') new (sample_at columns g r s)
sample_set rows columns g r' s' r s new long on_r' on_s' on_r on_s =
    get_or-set g (index columns r' s') (index columns r s) new [] (omega (arith, index_within rows columns r' s' on_r' on_s'))
    ∙ ap (λ b. cond b new (sample_at columns g r s)) (index_same columns r' s' r s on_r'.0 on_s' on_r.0 on_s)

-- The place where first line i and second line j meet.
pub meets : (p : Panel) (i j : ℕ) → OnLine (first_lines p) i → OnLine (second_lines p) j → OnLine p.size.rows (pick p.order i j) × OnLine p.size.columns (pick p.order j i)
meets p i j on_i on_j = go p.order on_i on_j
  where
    go : (o : Order) → OnLine (pick o p.size.rows p.size.columns) i → OnLine (pick o p.size.columns p.size.rows) j → OnLine p.size.rows (pick o i j) × OnLine p.size.columns (pick o j i)
    go RowsFirst a b = (a, b)
    go ColumnsFirst a b = (b, a)

pub first_back : (o : Order) (i j : ℕ) → pick o (pick o i j) (pick o j i) ≡ i
first_back RowsFirst i j = refl
first_back ColumnsFirst i j = refl

pub second_back : (o : Order) (i j : ℕ) → pick o (pick o j i) (pick o i j) ≡ j
second_back RowsFirst i j = refl
second_back ColumnsFirst i j = refl

-- One part of a grid made from a function, where two lines meet.
pub meeting_gridded : (p : Panel) (f : ℕ → ℕ → List ℤ) (part i j : ℕ) → OnLine (first_lines p) i → OnLine (second_lines p) j →
    meeting p (gridded p f) part i j ≡ part_of (f (pick p.order i j) (pick p.order j i)) part
meeting_gridded p f part i j on_i on_j =
    let on = meets p i j on_i on_j in
    ap (λ v. part_of v part) (sample_gridded p f (pick p.order i j) (pick p.order j i) on.0 on.1)

-- A line made from a function has its values.
pub place_counted : (f : ℕ → ℤ) (n j : ℕ) → OnLine n j → place (map f (range_with_len 1 n)) j ≡ f j
place_counted f n j on = get_or-map-range_with_len f 1 n (j - 1) j (pos 0) (omega arith) (omega arith)
