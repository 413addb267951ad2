-- The iterator tests every element; the four are at the indices below 4.
use Rattle.std.proofs.Common.{rules, pos, nat_le, unsigned_abs, ◌∙◌}
use Rattle.std.proofs.lemmas.Iterator.Search.{all_from_yields_List}
use Rattle.std.proofs.lemmas.Iterator.{YieldsList-from_slice}
use Rattle.surface.specs.Patch.{reach}
use Rattle.surface.proofs.Below.{all_by_index}
use Rattle.surface.proofs.patch.row_within.Goals as goal

pub returns : goal.returns
returns c =
    all_from_yields_List _ _ _ _ c.all.ensures.ran (YieldsList-from_slice c.args.row.now cc) (λ x b q k. search rules)
    ∙ all_by_index (λ point. nat_le (unsigned_abs point) reach) c.args.row.now (pos 0) 4 c.told-row
