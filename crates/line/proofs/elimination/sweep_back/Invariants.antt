-- Before index j the line still has the numbers g, from it on the rounded numbers x.
use Rattle.std.proofs.Common.{◌≡◌, ℕ, ◌+◌, ◌-◌, ◌<◌, ◌≤◌, length, get_or, pos}
use Rattle.line.specs.FixedPoint.{scale, nearest}
use Rattle.line.specs.Elimination.{back, fine}
use Rattle.line.proofs.elimination.sweep_back.Given as goal

abbrev pub invariant-loop-j : goal.invariant-loop-j
invariant-loop-j l = (l.x ≡ back l.initial.out (length l.initial.out - l.j))
    × ((k : ℕ) → k < l.j → get_or l.out k (pos 0) ≡ get_or l.initial.out k (pos 0))
    × ((k : ℕ) → l.j ≤ k → k < length l.initial.out → get_or l.out k (pos 0) ≡ nearest scale (fine l.initial.out (k + 1)))
