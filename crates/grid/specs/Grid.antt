-- A grid of samples is the list of its samples row by row, each sample the list of its parts. Parts, rows and columns count from 1.
use Rattle.std.specs.Prelude.{ℕ, List, [], ℤ, slice_index_or}
use Rattle.grid.specs.Place.{index}
use Rattle.grid.specs.Sample.{part_of}

abbrev pub Grid : Type 0
Grid = List (List ℤ)

-- The sample at a row and a column.
abbrev pub sample_at : ℕ → Grid → ℕ → ℕ → List ℤ
sample_at columns g r s = slice_index_or g (index columns r s) []

-- One part of it.
abbrev pub at : ℕ → Grid → ℕ → ℕ → ℕ → ℤ
at columns g part r s = part_of (sample_at columns g r s) part
