-- What `open` answers: the checks in the order of the file's bytes, then what the file says.
use Rattle.std.specs.Prelude.{ℕ, List, Ok, Err, Result}
use Rattle.std.specs.Result.{result_and}
use Rattle.grid.specs.declared.size.GridSize.{GridSize}
use Rattle.panel_file.specs.declared.opened.PanelFile.{PanelFile}
use Rattle.panel_file.specs.declared.refusal.FileRefusal.{FileRefusal}
use Rattle.panel_file.specs.Kind.{kind_parts}
use Rattle.panel_file.specs.Field.{Answer}
use Rattle.panel_file.specs.Layout.{sizes_answer, size_of, parts_of, samples_answer, samples_end, name_answer, name_at}

-- What a file says of itself: sizes, parts, and the bytes of its name.
pub record Summary : Type 0 where
  pub size : GridSize
  pub parts : ℕ
  pub name : List ℕ

-- An opened file, with the number of parts of its kind, and the bytes of its name in place of where they stand.
abbrev pub said_by : PanelFile → Summary
said_by opened = record { size = opened.size; parts = kind_parts opened.kind; name = opened.name.now }

-- The same of an answer; a refusal is as it is.
abbrev pub shown : Result PanelFile FileRefusal → Result Summary FileRefusal
shown (Ok opened) = Ok (said_by opened)
shown (Err refusal) = Err refusal

-- All checks of a file.
abbrev pub open_answer : List ℕ → Answer
open_answer file =
    result_and (sizes_answer file)
    (result_and (samples_answer file (size_of file) (parts_of file))
    (name_answer file (samples_end (size_of file) (parts_of file))))

-- What a file says of itself, if it passes them.
abbrev pub summary : List ℕ → Summary
summary file =
    record { size = size_of file; parts = parts_of file; name = name_at file (samples_end (size_of file) (parts_of file)) }

-- The first refusal, or what the file says.
abbrev pub open_result : List ℕ → Result Summary FileRefusal
open_result file = result_and (open_answer file) (Ok (summary file))
