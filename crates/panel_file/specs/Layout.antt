-- The three sections of a panel file, field by field in the order of their bytes.
--   offset 0: count 3 | 2: rows | 3: columns | 4: parts
--   offset 5: count rows x columns | 7: the parts of the samples, row by row, four bytes each
--   then: count of the name's bytes | the name | the end of the file
use Rattle.std.specs.Prelude.{ℕ, ◌+◌, ◌*◌, Bool, ◌&&◌, ◌||◌, List, length, drop, ℤ, ◌==◌, nat_le, unsigned_abs}
use Rattle.std.specs.Result.{result_and}
use Rattle.grid.specs.Checks.{check}
use Rattle.grid.specs.declared.size.GridSize.{GridSize}
use Rattle.panel_file.specs.declared.refusal.FileFault.TheVariants.{WrongCount, WrongParts, WrongSize, PartBeyond, BytesLeftOver, WrongNameByte}
use Rattle.panel_file.specs.declared.refusal.Section.TheVariants.{Sizes, Samples, Name}
use Rattle.panel_file.specs.Field.{Answer, refused, byte_at, count_at, part_at, field, fields}

-- Rows and columns are 2 to 64.
abbrev pub size_fits : ℕ → Bool
size_fits n = nat_le 2 n && nat_le n 64

-- A sample has one part or three.
abbrev pub parts_fit : ℕ → Bool
parts_fit n = n == 1 || n == 3

-- A part is within 100,000 either way.
abbrev pub part_fits : ℤ → Bool
part_fits v = nat_le (unsigned_abs v) 100000

-- A byte of the name is a printable character of ASCII.
abbrev pub printable : ℕ → Bool
printable b = nat_le 32 b && nat_le b 126

-- Section 1, and what its fields say.
abbrev pub sizes_answer : List ℕ → Answer
sizes_answer file =
    result_and (field file Sizes WrongCount 2 (λ here. count_at file here == 3) 0)
    (result_and (field file Sizes WrongSize 1 (λ here. size_fits (byte_at file here)) 2)
    (result_and (field file Sizes WrongSize 1 (λ here. size_fits (byte_at file here)) 3)
    (field file Sizes WrongParts 1 (λ here. parts_fit (byte_at file here)) 4)))

-- Rows and columns.
abbrev pub size_of : List ℕ → GridSize
size_of file = record { rows = byte_at file 2; columns = byte_at file 3 }

-- How many parts a sample has.
abbrev pub parts_of : List ℕ → ℕ
parts_of file = byte_at file 4

-- So many parts from an offset on.
abbrev pub parts_from : List ℕ → ℕ → ℕ → Answer
parts_from file count at = fields file Samples PartBeyond 4 (λ here. part_fits (part_at file here)) count at

-- Section 2.
abbrev pub samples_answer : List ℕ → GridSize → ℕ → Answer
samples_answer file size parts =
    result_and (field file Samples WrongCount 2 (λ here. count_at file here == size.rows * size.columns) 5)
    (parts_from file (size.rows * size.columns * parts) 7)

-- The offset at which section 2 ends.
abbrev pub samples_end : GridSize → ℕ → ℕ
samples_end size parts = 7 + size.rows * size.columns * parts * 4

-- So many bytes of a name from an offset on.
abbrev pub name_from : List ℕ → ℕ → ℕ → Answer
name_from file count at = fields file Name WrongNameByte 1 (λ here. printable (byte_at file here)) count at

-- Section 3, whose count stands at an offset; nothing may follow it.
abbrev pub name_answer : List ℕ → ℕ → Answer
name_answer file at =
    result_and (field file Name WrongCount 2 (λ here. nat_le (count_at file here) 40) at)
    (result_and (name_from file (count_at file at) (at + 2))
    (check (length file == at + 2 + count_at file at) (refused BytesLeftOver Name (at + 2 + count_at file at))))

-- The name: all that stands after its count.
abbrev pub name_at : List ℕ → ℕ → List ℕ
name_at file at = drop (at + 2) file
