use Rattle.std.proofs.Common.{◌≡◌, ◌++◌, map, take, drop}
use Rattle.panel.specs.Calls.{let_go}
use Rattle.panel.proofs.marks.let_go.Given as goal

abbrev pub invariant-loop-mark : goal.invariant-loop-mark
invariant-loop-mark l = l.mark-items ≡ map let_go (take l.mark-index l.fn.marks) ++ drop l.mark-index l.fn.marks
