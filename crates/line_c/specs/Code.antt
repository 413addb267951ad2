-- What a solver answers, as one number.
use Rattle.std.specs.Prelude.{ℕ, Ok, Err, Result}
use Rattle.line.specs.declared.solver.SolveFault.{SolveFault}
use Rattle.line.specs.Solve.{fault_number}

-- 0 for a solved line, else the number of the refusal.
abbrev pub code : Result (Unit {0}) SolveFault → ℕ
code (Ok _) = 0
code (Err fault) = fault_number fault
