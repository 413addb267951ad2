-- The kinds of sample, by how many parts each sample has.
use Rattle.std.specs.Prelude.{ℕ, Ok, Err, Result, if◌then◌else◌, ◌==◌}
use Rattle.panel_file.specs.declared.kind.Kind.{Kind}
use Rattle.panel_file.specs.declared.kind.Kind.TheVariants.{Heights, Points}
use Rattle.panel_file.specs.declared.refusal.FileFault.{FileFault}
use Rattle.panel_file.specs.declared.refusal.FileFault.TheVariants.{WrongParts}

-- How many parts a sample of the kind has.
abbrev pub kind_parts : Kind → ℕ
kind_parts Heights = 1
kind_parts Points = 3

-- The kind with so many parts.
abbrev pub kind_with : ℕ → Result Kind FileFault
kind_with parts = if parts == 1 then Ok Heights else if parts == 3 then Ok Points else Err WrongParts
