-- For every dominant rule at most one, for doubled ends exactly one.
use Rattle.line.proofs.Doubled.{doubled, doubled_solvable}
use Rattle.line.proofs.Rules.{one_solution}
use Rattle.line.proofs.laws.lines_have_one_solution.Goals as goal

pub returns : goal.returns
returns c = record { dominant = λ n sums rule. one_solution rule; doubled = λ n two. one_solution (doubled n); some = doubled_solvable }
