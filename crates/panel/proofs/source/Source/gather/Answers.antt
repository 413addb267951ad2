use Rattle.std.proofs.Common.{◌≡◌, ℕ, ◌<◌, [], map, length, get_or, ℤ, pos, ◌*ℤ◌, sym, ap, ◌∙◌, arith, w32, SFits, rules}
use Rattle.std.proofs.lemmas.List.{get_or-map}
use Rattle.std.proofs.lemmas.List.FromFn.{fill_by_all}
use Rattle.grid.specs.Sample.{part_of}
use Rattle.panel.specs.Lane.{on_lane}
use Rattle.panel.proofs.Lanes.{product_is, wrote}
use Rattle.panel.proofs.source.Source.gather.Goals as goal

pub loop-e-preserved : goal.loop-e-preserved
loop-e-preserved g c =
    let grid = map g.K.Sample.parts c.args.self.now.grid.now in
    let scale = c.args.self.now.scale in
    let f : ℕ → ℤ = λ k. pos scale *ℤ part_of (get_or grid (on_lane c.args.self.now.lane k) []) c.args.part in
    let s : SFits w32 c.part.result = search rules in
    let i : c.index.result < length c.args.self.now.grid.now = rw c.index.ensures (c.args.self.now.inside c.loop-e.e (omega arith)) in
    let at : get_or grid (on_lane c.args.self.now.lane c.loop-e.e) [] ≡ g.K.Sample.parts (get_or c.args.self.now.grid.now c.index.result c.index-self-index.result) =
    ap (λ k. get_or grid k []) (sym c.index.ensures) ∙ get_or-map g.K.Sample.parts c.args.self.now.grid.now c.index.result c.index-self-index.result [] i in
    let is = product_is c.from.result c.from-in-loop-e.result scale c.part.result c.from.ensures c.from-in-loop-e.ensures c.args.self.now.low s
    ∙ ap (λ x. pos scale *ℤ x) c.part.ensures.value in
    wrote f c.loop-e.line c.loop-e.e _ (is ∙ ap (λ v. pos scale *ℤ part_of v c.args.part) (sym at)) (omega arith) c.loop-e.invariant

pub returns : goal.returns
returns g c =
    let f : ℕ → ℤ = λ k. pos c.args.self.now.scale *ℤ part_of (get_or (map g.K.Sample.parts c.args.self.now.grid.now) (on_lane c.args.self.now.lane k) []) c.args.part in
    fill_by_all f c.loop-e.line c.args.self.now.lane.count (pos 0) (omega arith) (λ k h. c.loop-e.invariant k (omega arith))
