-- What a step over one field answers, and what a walk over so many.
use Rattle.std.specs.Prelude.{ℕ, ◌+◌, ◌*◌, Bool, List, Ok, Result}
use Rattle.std.specs.Result.{result_and}
use Rattle.panel_file.specs.declared.field.Field.{Field}
use Rattle.panel_file.specs.declared.refusal.FileFault.{FileFault}
use Rattle.panel_file.specs.declared.refusal.FileRefusal.{FileRefusal}
use Rattle.panel_file.specs.Field.{field, fields}

-- The field after this one, or a refusal of it.
abbrev pub step_over : List ℕ → FileFault → ℕ → (ℕ → Bool) → Field → Result Field FileRefusal
step_over file fault width holds here =
    result_and (field file here.section fault width holds here.at) (Ok (record { section = here.section; at = here.at + width }))

-- The field after so many, or the first refusal.
abbrev pub walk_over : List ℕ → FileFault → ℕ → (ℕ → Bool) → ℕ → Field → Result Field FileRefusal
walk_over file fault width holds n here =
    result_and (fields file here.section fault width holds n here.at) (Ok (record { section = here.section; at = here.at + n * width }))
