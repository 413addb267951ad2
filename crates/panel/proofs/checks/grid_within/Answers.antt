use Rattle.std.proofs.Common.{[], map, sym, ap, ◌∙◌, arith}
use Rattle.std.proofs.lemmas.List.{get_or-map, length-map}
use Rattle.grid.proofs.Chains.{exit}
use Rattle.panel.proofs.Walks.{grid_on, grid_out}
use Rattle.panel.proofs.checks.grid_within.Goals as goal

pub returns-in_err-parts_within : goal.returns-in_err-parts_within
returns-in_err-parts_within g c =
    let v = map g.K.Sample.parts c.args.samples.now in
    let n = length-map c.args.samples.now g.K.Sample.parts in
    let at = get_or-map g.K.Sample.parts c.args.samples.now c.loop-k.k c.index-samples-k.result [] (omega arith) ∙ ap g.K.Sample.parts (sym c.index-samples-k.is) in
    exit _ c.from_residual.ensures.1 ∙ sym (grid_out c.args.columns c.loop-k.k v _ (omega arith) at (sym c.in_err-parts_within.ensures)) ∙ c.loop-k.invariant

pub loop-k-preserved : goal.loop-k-preserved
loop-k-preserved g c =
    let v = map g.K.Sample.parts c.args.samples.now in
    let n = length-map c.args.samples.now g.K.Sample.parts in
    let at = get_or-map g.K.Sample.parts c.args.samples.now c.loop-k.k c.index-samples-k.result [] (omega arith) ∙ ap g.K.Sample.parts (sym c.index-samples-k.is) in
    sym (grid_on c.args.columns c.loop-k.k v _ (omega arith) at (sym c.in_ok-parts_within.ensures)) ∙ c.loop-k.invariant
