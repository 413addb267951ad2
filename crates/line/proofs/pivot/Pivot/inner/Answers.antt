-- The table is tested here, once, against the rule of the pivots.
use Rattle.std.proofs.Common.{pos, refl, ap, ◌∙◌, arith}
use Rattle.line.specs.Pivot.{pivot}
use Rattle.line.specs.Pivots.{pivot_small, pivot_inner}
use Rattle.line.proofs.Tables.{handed}
use Rattle.line.proofs.pivot.Pivot.inner.Goals as goal

pub invariant_of-result : goal.invariant_of-result
unfolding pivot
invariant_of-result c =
    record { small = rw (handed (pivot 65) 65 c.args.j (omega arith) (pivot 65 c.args.j) refl (omega (arith, pivot_small 65 c.args.j))) (pivot_small 65 c.args.j) }

pub returns : goal.returns
unfolding pivot
returns c =
    λ n below high. handed (pivot 65) 65 c.args.j (omega arith) (pivot 65 c.args.j) refl (omega (arith, pivot_small 65 c.args.j)) ∙ ap pos (pivot_inner n 65 c.args.j below (omega arith))
