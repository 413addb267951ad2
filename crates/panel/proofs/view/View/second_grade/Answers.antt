use Rattle.std.proofs.Common.{◌≡◌, ◌+◌, ◌-◌, get_or, ap, ◌∙◌, arith}
use Rattle.std.proofs.lemmas.List.FromFn.{get_or-map-range_with_len}
use Rattle.panel.specs.Calls.{mark, grade_of}
use Rattle.panel.specs.Reading.{needed}
use Rattle.panel.proofs.Needed.{greatest_more}
use Rattle.panel.proofs.view.View.second_grade.Goals as goal

pub loop-line-preserved : goal.loop-line-preserved
loop-line-preserved g c =
    let p = c.args.self.now.panel.now in
    let i = c.loop-line.line-index in
    let line : get_or c.needed.result i 0 ≡ needed p c.args.self.now.x c.args.self.now.y (i + 1 - 1) =
    ap (λ v. get_or v i 0) c.needed.ensures ∙ get_or-map-range_with_len (needed p c.args.self.now.x c.args.self.now.y) 0 4 i (i + 1 - 1) 0 (omega arith) (omega arith) in
    greatest_more (λ a. grade_of (mark p.second (needed p c.args.self.now.x c.args.self.now.y (a - 1)))) i c.loop-line.most _ _ c.loop-line.invariant
    (c.grade.ensures ∙ ap grade_of (c.mark_of.ensures ∙ ap (mark p.second) line)) c.max-most.ensures
