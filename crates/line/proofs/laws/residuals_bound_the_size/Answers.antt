-- For every dominant rule, so for doubled ends, and so for every sound solver.
use Rattle.std.proofs.Common.{length}
use Rattle.line.specs.Line.{place}
use Rattle.line.proofs.Doubled.{doubled}
use Rattle.line.proofs.Rules.{sized}
use Rattle.line.proofs.laws.residuals_bound_the_size.Goals as goal

pub returns : goal.returns
returns c = record {
  dominant = λ n sums rule. sized rule;
  doubled = λ n two. sized (doubled n);
  answers = λ s sound k ok b small. sized (doubled (length k)) (place k) (place (s.rule k)) b s.grade small (sound.near k ok);
}
