-- The sum of four points within reach is low.
use Rattle.std.proofs.Common.{◌≡◌, ◌∙◌, ap, sym, subst, nat_abs, ◌≤◌, ℤ, to_z, of_z, w64}
use Rattle.std.proofs.lemmas.Int.{to_z-of_z}
use Rattle.surface.specs.Patch.{reach}
use Rattle.surface.specs.Products.{products}
use Rattle.surface.proofs.Sums.{products_low}
use Rattle.surface.proofs.patch.LineWeights.sum_of_row.Goals as goal

pub returns : goal.returns
returns c =
    let value : to_z w64 (of_z w64 c.sum.result) ≡ products c.args.self.now.values c.args.row.now =
    to_z-of_z w64 c.sum.result (record { sfits = c.sum.type_inv }) ∙ c.sum.ensures ∙ ap (products c.args.self.now.values) c.widened.ensures in
    record {
      value = value;
      low = subst (λ (v : ℤ). nat_abs v ≤ 8388608000000) (sym value) (products_low c.args.self.now.values c.args.row.now reach c.args.self.now.low c.requires);
    }
