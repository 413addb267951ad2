-- The points of each row lie within reach, so that the sums of the rows stay low.
use Rattle.std.proofs.Common.{arith}
use Rattle.surface.proofs.Sums.{kept_four, row_low}
use Rattle.surface.proofs.patch.LineWeights.sum_of_rows.Goals as goal

pub sum_of_row-requires : goal.sum_of_row-requires
sum_of_row-requires c = row_low c.args.rows.now c.requires 0 (omega arith)

pub sum_of_row-requires-2 : goal.sum_of_row-requires-2
sum_of_row-requires-2 c = row_low c.args.rows.now c.requires 1 (omega arith)

pub sum_of_row-requires-3 : goal.sum_of_row-requires-3
sum_of_row-requires-3 c = row_low c.args.rows.now c.requires 2 (omega arith)

pub sum_of_row-requires-4 : goal.sum_of_row-requires-4
sum_of_row-requires-4 c = row_low c.args.rows.now c.requires 3 (omega arith)

pub sum-requires : goal.sum-requires
sum-requires c =
    kept_four c.sum_of_row.result c.sum_of_row-2.result c.sum_of_row-3.result c.sum_of_row-4.result
    c.sum_of_row.ensures.low c.sum_of_row-2.ensures.low c.sum_of_row-3.ensures.low c.sum_of_row-4.ensures.low
