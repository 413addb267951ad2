-- A coarser solver: the rule of elimination with a greater grade.
use Rattle.line.specs.Solver.{Solver}
use Rattle.line.specs.Elimination.{elimination}

abbrev pub coarse : Solver
coarse = record { grade = 7; rule = elimination.rule }
