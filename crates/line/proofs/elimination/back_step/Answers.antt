-- The numbers of a back step stay within 64 bits.
use Rattle.std.proofs.Common.{◌≡◌, ◌≤◌, ◌+◌, ◌*◌, unsigned_abs, ◌∙◌, ap, arith}
use Rattle.std.proofs.lemmas.Int.{ints}
use Rattle.line.specs.FixedPoint.{fraction}
use Rattle.line.specs.Fractions.{fraction_small}
use Rattle.line.proofs.elimination.back_step.Goals as goal

part_is : (c : goal.After-part_of) → c.part_of.result ≡ fraction c.args.pivot.w c.args.x
part_is c = c.part_of.ensures ∙ ap (fraction c.args.pivot.w) (omega (arith, ints))

part_small : (c : goal.After-part_of) → 3 * unsigned_abs c.part_of.result ≤ unsigned_abs c.args.x + 2
part_small c = rw (part_is c) (fraction_small c.args.pivot.w c.args.x c.args.pivot.small)

pub overflow_sub-result : goal.overflow_sub-result
overflow_sub-result c = omega (arith, ints, part_small c)

pub returns : goal.returns
returns c = omega (arith, ints, part_is c, part_small c)
