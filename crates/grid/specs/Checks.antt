-- Checks made in order: the first that fails names the refusal.
use Rattle.std.specs.Prelude.{Bool, if◌then◌else◌, Ok, Err, Result}

-- One check: a refusal unless it holds.
abbrev pub check : {E : Type 0} → Bool → E → Result (Unit {0}) E
check holds refusal = if holds then Ok tt else Err refusal

-- The new value if the answer is good, the old one if it is a refusal.
abbrev pub if_ok : {A B E : Type 0} → Result A E → B → B → B
if_ok (Ok _) new old = new
if_ok (Err _) new old = old
