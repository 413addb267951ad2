use Rattle.std.proofs.Common.{leb, nat_abs, sym, ap, ◌∙◌, arith, w32, SFits, rules}
use Rattle.std.proofs.lemmas.Int.{to_z-of_z}
use Rattle.panel.specs.Calls.{part_limit}
use Rattle.panel.proofs.Walks.{part_on}
use Rattle.panel.proofs.checks.parts_within.Goals as goal

pub loop-part-preserved : goal.loop-part-preserved
loop-part-preserved g c =
    let v = g.K.Sample.parts c.args.sample.now in
    let fits : SFits w32 c.part.result = search rules in
    let low = ap (λ x. leb (nat_abs x) part_limit) (sym c.part.ensures.value ∙ sym (to_z-of_z w32 c.part.result fits)) ∙ sym c.if-not-is_within.ensures in
    record {
      counted = omega arith;
      so_far = sym (part_on c.args.place.row c.args.place.column v c.loop-part.part (omega (arith, g.met.K.Sample.counted.2 c.args.sample.now, c.PARTS-part-end.ensures)) low) ∙ c.loop-part.invariant.so_far;
    }
