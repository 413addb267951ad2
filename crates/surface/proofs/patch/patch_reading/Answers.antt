-- The sum fits, and its reading does.
use Rattle.std.proofs.Common.{sym, ◌∙◌}
use Rattle.surface.proofs.Sums.{reading_is}
use Rattle.surface.proofs.patch.patch_reading.Goals as goal

pub returns-then-rows_within : goal.returns-then-rows_within
returns-then-rows_within c =
    reading_is c.args.x c.args.y c.args.rows.now c.sum_at.result c.nearest.result c.sum_at.type_inv c.nearest.type_inv
    (sym c.rows_within.ensures ∙ c.if-rows_within.true) c.sum_at.ensures c.nearest.ensures.value
