-- What `fill` answers, and the samples that it writes.
use Rattle.std.specs.Prelude.{ℕ, ◌+◌, ◌*◌, List, map, ℤ, Ok, Err, Result, ◌==◌}
use Rattle.std.specs.List.{range_with_len}
use Rattle.std.specs.Result.{result_and}
use Rattle.grid.specs.Checks.{check}
use Rattle.panel_file.specs.declared.refusal.FileFault.TheVariants.{WrongParts}
use Rattle.panel_file.specs.declared.refusal.FileRefusal.{FileRefusal}
use Rattle.panel_file.specs.declared.refusal.FillFault.{FillFault}
use Rattle.panel_file.specs.declared.refusal.FillFault.TheVariants.{File, GridLength}
use Rattle.panel_file.specs.declared.refusal.Section.TheVariants.{Sizes}
use Rattle.panel_file.specs.Field.{refused, part_at}
use Rattle.panel_file.specs.Layout.{size_of, parts_of}
use Rattle.panel_file.specs.Open.{open_answer}

-- What `fill` can answer.
abbrev pub FillAnswer : Type 0
FillAnswer = Result (Unit {0}) FillFault

-- A refusal of the file, as one of `fill`.
abbrev pub of_file : Result (Unit {0}) FileRefusal → FillAnswer
of_file (Ok _) = Ok tt
of_file (Err refusal) = Err (File refusal)

-- First the file; then its parts against those of the grid's kind; then how many samples the grid has.
abbrev pub fill_answer : ℕ → List ℕ → ℕ → FillAnswer
fill_answer parts file room =
    result_and (of_file (open_answer file))
    (result_and (check (parts_of file == parts) (File (refused WrongParts Sizes 4)))
    (check (room == (size_of file).rows * (size_of file).columns) GridLength))

-- So many parts from an offset on.
abbrev pub parts_at : List ℕ → ℕ → ℕ → List ℤ
parts_at file count at = map (λ k. part_at file (at + k * 4)) (range_with_len 0 count)

-- So many samples from offset 7 on.
abbrev pub samples_of : List ℕ → ℕ → ℕ → List (List ℤ)
samples_of file parts count = map (λ i. parts_at file parts (7 + i * (parts * 4))) (range_with_len 0 count)
