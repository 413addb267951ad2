use Rattle.std.proofs.Common.{set, ◌∙◌, ap₂, add-one}
use Rattle.std.proofs.lemmas.List.{map-set}
use Rattle.panel.specs.Lane.{on_lane}
use Rattle.panel.proofs.source.Solved.store.Goals as goal

pub loop-e-preserved : goal.loop-e-preserved
loop-e-preserved g c =
    rw (add-one, c.index-at.ensures)
    (map-set g.K.Sample.parts c.loop-e.target _ c.at.result
    ∙ ap₂ (λ t v. set t (on_lane c.args.lane c.loop-e.e) v) c.loop-e.invariant c.at.ensures)
