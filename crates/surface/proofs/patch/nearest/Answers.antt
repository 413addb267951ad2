-- Counted in halves first, and no cast loses anything.
use Rattle.std.proofs.Common.{◌≡◌, ◌*◌, ◌≤◌, ℤ, pos, ◌-ℤ◌, ◌*ℤ◌, nat_abs, sym, subst, w32, w64, to_z, of_z}
use Rattle.surface.specs.Surface.{F, rounded}
use Rattle.surface.proofs.Rounded.{nearest_is, rounded_near}
use Rattle.surface.proofs.patch.nearest.Goals as goal

pub returns : goal.returns
returns c =
    let q = c.div_euclid in
    let n = c.nearest_to_halves in
    let value : to_z w32 (of_z w32 (to_z w64 (of_z w64 n.result))) ≡ rounded c.args.sum =
    nearest_is c.args.sum q.result n.result c.ranges.sum (record { sfits = q.type_inv }) (record { sfits = n.type_inv }) q.ensures n.ensures in
    record { value = value; near = subst (λ (r : ℤ). 2 * nat_abs (pos F *ℤ r -ℤ c.args.sum) ≤ F) (sym value) (rounded_near c.args.sum) }
