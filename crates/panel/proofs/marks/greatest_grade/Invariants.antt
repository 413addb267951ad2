use Rattle.std.proofs.Common.{◌≡◌, length}
use Rattle.panel.specs.Calls.{mark, grade_of}
use Rattle.panel.specs.Reading.{greatest}
use Rattle.panel.proofs.marks.greatest_grade.Given as goal

abbrev pub invariant-loop-mark : goal.invariant-loop-mark
invariant-loop-mark l = l.most ≡ greatest (λ i. grade_of (mark l.marks i)) (length l.yielded)
