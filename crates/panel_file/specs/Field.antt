-- The fields of a panel file: where they stand, what they say, and which are refused.
-- An offset counts bytes from 0 at the start of the file; numbers of several bytes have the low byte first.
use Rattle.std.specs.Prelude.{ℕ, zero, suc, ◌+◌, ◌-◌, ◌*◌, Bool, if◌then◌else◌, List, length, ℤ, pos, negsuc, Ok, Result, nat_le, nat_lt, slice_index}
use Rattle.std.specs.Result.{result_and}
use Rattle.grid.specs.Checks.{check}
use Rattle.panel_file.specs.declared.refusal.FileFault.{FileFault}
use Rattle.panel_file.specs.declared.refusal.FileFault.TheVariants.{EndsEarly}
use Rattle.panel_file.specs.declared.refusal.FileRefusal.{FileRefusal}
use Rattle.panel_file.specs.declared.refusal.Section.{Section}

-- What a check answers.
abbrev pub Answer : Type 0
Answer = Result (Unit {0}) FileRefusal

-- A fault of the field at an offset.
abbrev pub refused : FileFault → Section → ℕ → FileRefusal
refused fault section offset = record { fault = fault; section = section; offset = offset }

-- A byte, unsigned.
abbrev pub byte_at : List ℕ → ℕ → ℕ
byte_at file at = slice_index file at

-- A count: two bytes, unsigned.
abbrev pub count_at : List ℕ → ℕ → ℕ
count_at file at = byte_at file at + byte_at file (at + 1) * 256

-- What 32 bits mean as a signed number.
abbrev pub signed : ℕ → ℤ
signed n = if nat_lt n 2147483648 then pos n else negsuc (4294967295 - n)

-- A part: four bytes, signed.
abbrev pub part_at : List ℕ → ℕ → ℤ
part_at file at =
    signed (byte_at file at + byte_at file (at + 1) * 256 + byte_at file (at + 2) * 65536 + byte_at file (at + 3) * 16777216)

-- The file has all bytes of a field of some width.
abbrev pub present : List ℕ → Section → ℕ → ℕ → Answer
present file section width at = check (nat_le (at + width) (length file)) (refused EndsEarly section at)

-- A field: first that the file does not end early, then the field's own test.
abbrev pub field : List ℕ → Section → FileFault → ℕ → (ℕ → Bool) → ℕ → Answer
field file section fault width holds at =
    result_and (present file section width at) (check (holds at) (refused fault section at))

-- So many fields one after the other, all of one width and with one test.
abbrev pub fields : List ℕ → Section → FileFault → ℕ → (ℕ → Bool) → ℕ → ℕ → Answer
fields file section fault width holds zero at = Ok tt
fields file section fault width holds (suc left) at =
    result_and (field file section fault width holds at) (fields file section fault width holds left (at + width))
