-- The number of each refusal, and of each section.
use Rattle.std.specs.Prelude.{ℕ}
use Rattle.panel_file.specs.declared.refusal.FileFault.{FileFault}
use Rattle.panel_file.specs.declared.refusal.FileFault.TheVariants.{EndsEarly, WrongCount, WrongParts, WrongSize, PartBeyond, BytesLeftOver, WrongNameByte}
use Rattle.panel_file.specs.declared.refusal.FillFault.{FillFault}
use Rattle.panel_file.specs.declared.refusal.FillFault.TheVariants.{File, GridLength}
use Rattle.panel_file.specs.declared.refusal.Section.{Section}
use Rattle.panel_file.specs.declared.refusal.Section.TheVariants.{Sizes, Samples, Name}

-- What the file's author caused.
abbrev pub fault_number : FileFault → ℕ
fault_number EndsEarly = 11
fault_number WrongCount = 12
fault_number WrongParts = 13
fault_number WrongSize = 14
fault_number PartBeyond = 15
fault_number BytesLeftOver = 16
fault_number WrongNameByte = 17

-- The sections in their order.
abbrev pub section_number : Section → ℕ
section_number Sizes = 1
section_number Samples = 2
section_number Name = 3

-- What keeps a grid from being filled: the file, or a grid of the host's that has another length.
abbrev pub fill_number : FillFault → ℕ
fill_number (File refusal) = fault_number refusal.fault
fill_number GridLength = 41
