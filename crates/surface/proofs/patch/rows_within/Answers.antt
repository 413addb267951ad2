-- The iterator tests every row; the four are at the indices below 4.
use Rattle.std.proofs.Common.{rules, [], pos, nat_le, slice_index_or, unsigned_abs, ◌∙◌}
use Rattle.std.proofs.lemmas.Iterator.Search.{all_from_yields_List}
use Rattle.std.proofs.lemmas.Iterator.{YieldsList-from_slice}
use Rattle.surface.specs.Patch.{reach, all_below}
use Rattle.surface.proofs.Below.{all_by_index}
use Rattle.surface.proofs.patch.rows_within.Goals as goal

pub returns : goal.returns
returns c =
    all_from_yields_List _ _ _ _ c.all.ensures.ran (YieldsList-from_slice c.args.rows.now cc) (λ x b q k. search rules)
    ∙ all_by_index (λ row. all_below 4 (λ b. nat_le (unsigned_abs (slice_index_or row b (pos 0))) reach)) c.args.rows.now [] 4 c.told-rows
