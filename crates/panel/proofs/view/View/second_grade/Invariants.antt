use Rattle.std.proofs.Common.{◌≡◌, ◌-◌}
use Rattle.panel.specs.Calls.{mark, grade_of}
use Rattle.panel.specs.Reading.{needed, greatest}
use Rattle.panel.proofs.view.View.second_grade.Given as goal

abbrev pub invariant-loop-line : goal.invariant-loop-line
invariant-loop-line g l = l.most ≡ greatest (λ a. grade_of (mark l.self.panel.now.second (needed l.self.panel.now l.self.x l.self.y (a - 1)))) l.line-index
