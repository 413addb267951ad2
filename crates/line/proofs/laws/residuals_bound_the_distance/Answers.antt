-- For every dominant rule, and so for doubled ends.
use Rattle.line.proofs.Doubled.{doubled}
use Rattle.line.proofs.Rules.{near_exact}
use Rattle.line.proofs.laws.residuals_bound_the_distance.Goals as goal

pub returns : goal.returns
returns c = record { dominant = λ n sums rule. near_exact rule; doubled = λ n two. near_exact (doubled n) }
