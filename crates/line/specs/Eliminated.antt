-- Elimination is sound.
use Rattle.std.specs.Prelude.{◌≡◌, ℕ, List, length, ℤ}
use Rattle.std.proofs.Common.{arith, ap}
use Rattle.line.specs.Solver.{Sound}
use Rattle.line.specs.FixedPoint.{scale, nearest_line}
use Rattle.line.specs.Elimination.{forwards, backs, elimination}
use Rattle.line.specs.Refined.{sound_rounded}
use Rattle.line.specs.Sweeps.{length_forwards, finer, finer_near}

pub rounds : (k : List ℤ) → backs (forwards k) ≡ nearest_line scale (length k) (finer k)
rounds k = ap (λ (n : ℕ). nearest_line scale n (finer k)) (length_forwards k)

pub sound : Sound elimination
sound = sound_rounded elimination scale 12 (omega arith) finer rounds finer_near (omega arith) (omega arith)
