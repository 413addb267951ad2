-- The table is tested here, once, against the rule of the pivots.
use Rattle.std.proofs.Common.{refl, arith}
use Rattle.line.specs.Pivot.{pivot}
use Rattle.line.specs.Pivots.{pivot_small}
use Rattle.line.proofs.Tables.{handed}
use Rattle.line.proofs.pivot.Pivot.last.Goals as goal

pub invariant_of-result : goal.invariant_of-result
unfolding pivot
invariant_of-result c =
    record { small = rw (handed (λ n. pivot n n) 65 c.args.n (omega arith) (pivot c.args.n c.args.n) refl (omega (arith, pivot_small c.args.n c.args.n))) (pivot_small c.args.n c.args.n) }

pub returns : goal.returns
unfolding pivot
returns c = handed (λ n. pivot n n) 65 c.args.n (omega arith) (pivot c.args.n c.args.n) refl (omega (arith, pivot_small c.args.n c.args.n))
