-- The places of a grid stored row by row; rows and columns count from 1, indices from 0.
use Rattle.std.specs.Prelude.{ℕ, ◌+◌, ◌-◌, ◌*◌, ◌/◌, ◌%◌, Bool, if◌then◌else◌, ◌&&◌, Some, None, Option, nat_le, nat_lt}
use Rattle.grid.specs.declared.size.GridSize.{GridSize}
use Rattle.grid.specs.declared.size.Place.{Place}

-- Where the sample at a row and a column stands.
abbrev pub index : ℕ → ℕ → ℕ → ℕ
index columns row column = (row - 1) * columns + (column - 1)

-- Whether a grid has such a row and such a column.
abbrev pub on_grid : GridSize → Place → Bool
on_grid size p = (nat_le 1 p.row && nat_le p.row size.rows) && (nat_le 1 p.column && nat_le p.column size.columns)

-- The index of a place, and none off the grid.
abbrev pub index_on : GridSize → Place → Option ℕ
index_on size p = if on_grid size p then Some (index size.columns p.row p.column) else None

-- The place at an index.
abbrev pub place_at : GridSize → ℕ → Place
place_at size k = record { row = k / size.columns + 1; column = k % size.columns + 1 }

-- The same, and none past the last.
abbrev pub place_on : GridSize → ℕ → Option Place
place_on size k = if nat_lt k (size.rows * size.columns) then Some (place_at size k) else None
