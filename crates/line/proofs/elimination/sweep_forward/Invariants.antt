-- The numbers g so far, and the last of them.
use Rattle.std.proofs.Common.{◌≡◌, map, take}
use Rattle.std.specs.List.{range_with_len}
use Rattle.line.specs.Elimination.{forward}
use Rattle.line.proofs.elimination.sweep_forward.Given as goal

abbrev pub invariant-loop-j : goal.invariant-loop-j
invariant-loop-j l = (l.g ≡ forward l.line l.j) × (take l.j l.out ≡ map (forward l.line) (range_with_len 1 l.j))
