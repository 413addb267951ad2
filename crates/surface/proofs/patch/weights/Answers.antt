-- By trial of each, and no cast loses anything.
use Rattle.std.proofs.Common.{◌%◌, sym, subst, arith}
use Rattle.surface.specs.Products.{Low}
use Rattle.surface.proofs.Weights.{weights_are, weights_low, weights_whole, middle}
use Rattle.surface.proofs.patch.weights.Goals as goal

pub weight_before-requires : goal.weight_before-requires
weight_before-requires c =
    let e = c.cube-cube_after.ensures.value in
    (rw e (middle (c.args.x % 32) (omega arith)).before, c.cube-cube_after.ensures.low)

pub weight_after-requires : goal.weight_after-requires
weight_after-requires c =
    let e = c.cube-cube_after.ensures.value in
    let m = middle (c.args.x % 32) (omega arith) in
    (rw e m.after, (m.low, omega arith))

pub returns : goal.returns
returns c =
    let value = weights_are c.args.x c.cube-cube_before.result c.weight_before.result c.weight_after.result c.cube-cube_after.result
    c.cube-cube_before.ensures.value c.weight_before.ensures c.weight_after.ensures c.cube-cube_after.ensures.value in
    record { value = value; low = subst (Low 131072) (sym value) (weights_low c.args.x); whole = weights_whole (c.args.x % 32) (omega arith) }
