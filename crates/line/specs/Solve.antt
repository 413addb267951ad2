-- What `solve` answers and what it leaves in the output line.
use Rattle.std.specs.Prelude.{ℕ, ◌+◌, if◌then◌else◌, ◌&&◌, List, [], ◌∷◌, length, ℤ, Ok, Err, Result, ◌==◌, nat_le, unsigned_abs}
use Rattle.grid.specs.Checks.{if_ok}
use Rattle.line.specs.declared.solver.SolveFault.{SolveFault}
use Rattle.line.specs.declared.solver.SolveFault.TheVariants.{Length, Output, Beyond}
use Rattle.line.specs.Solver.{Solver, limit}

-- The number of each refusal.
abbrev pub fault_number : SolveFault → ℕ
fault_number Length = 1
fault_number Output = 2
fault_number (Beyond place) = 3

-- The first place, counted from j, whose number lies beyond the limit either way.
abbrev pub first_beyond : ℕ → List ℤ → Result (Unit {0}) SolveFault
first_beyond j [] = Ok tt
first_beyond j (x ∷ k) = if nat_le (unsigned_abs x) limit then first_beyond (j + 1) k else Err (Beyond j)

-- The checks in their order: the length from 2 to 64, room for as many numbers in the output, no number beyond the limit.
abbrev pub solve_answer : List ℤ → ℕ → Result (Unit {0}) SolveFault
solve_answer k room =
    if nat_le 2 (length k) && nat_le (length k) 64 then (if room == length k then first_beyond 1 k else Err Output) else Err Length

-- The output line afterwards: the rule's line, or what it held before if the line was refused.
abbrev pub solve_after : Solver → List ℤ → List ℤ → List ℤ
solve_after s k out = if_ok (solve_answer k (length out)) (s.rule k) out
