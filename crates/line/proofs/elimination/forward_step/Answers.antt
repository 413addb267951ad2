-- The numbers of a forward step stay within 64 bits.
use Rattle.std.proofs.Common.{◌∙◌, ap, arith, w64}
use Rattle.std.proofs.lemmas.Int.{ints, to_z-of_z}
use Rattle.line.specs.FixedPoint.{fraction}
use Rattle.line.proofs.elimination.forward_step.Goals as goal

pub returns : goal.returns
returns c = to_z-of_z w64 c.part_of.result (record { sfits = c.part_of.type_inv }) ∙ c.part_of.ensures ∙ ap (fraction c.args.pivot.w) (omega (arith, ints))
