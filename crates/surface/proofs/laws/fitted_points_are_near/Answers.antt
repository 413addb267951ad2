-- Under doubled ends.
use Rattle.line.specs.Doubled.{doubled_crosses}
use Rattle.surface.proofs.GridLaws.{doubled_rule, rows_then_column, columns_then_row}
use Rattle.surface.proofs.laws.fitted_points_are_near.Goals as goal

pub returns : goal.returns
returns c = record { rows_first = rows_then_column doubled_rule doubled_crosses; columns_first = columns_then_row doubled_rule doubled_crosses }
