-- One byte more than the longest file is enough.
use Rattle.std.proofs.Common.{◌≡◌, ◌+◌, sym, subst, arith}
use Rattle.panel_file.specs.Laws.{Enough}
use Rattle.panel_file.proofs.Cut.{enough}
use Rattle.panel_file.proofs.opened.enough.Goals as goal

pub returns-clause-alike : goal.returns-clause-alike
returns-clause-alike c = let value : c.longest.result + 1 ≡ 49202 = omega arith in subst Enough (sym value) enough
