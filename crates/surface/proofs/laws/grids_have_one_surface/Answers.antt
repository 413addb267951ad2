-- Under doubled ends.
use Rattle.line.proofs.Doubled.{doubled_solvable}
use Rattle.surface.proofs.GridLaws.{doubled_rule, some_grid, one_grid}
use Rattle.surface.proofs.laws.grids_have_one_surface.Goals as goal

pub returns : goal.returns
returns c = record { some = some_grid doubled_rule doubled_solvable; one = one_grid doubled_rule }
