use Rattle.std.proofs.Common.{◌≡◌, ℕ, ◌<◌, ◌+ℤ◌, pos, map, ap, ◌∙◌, subst, arith, w32, SFits, rules}
use Rattle.panel.proofs.Given.{given_next}
use Rattle.panel.proofs.WholeFit.{second_turn, second_turn_panel, second_turn_controls}
use Rattle.panel.proofs.record.Panel.fit_second_lines.Goals as goal

pub returns-in_err-second_line : goal.returns-in_err-second_line
returns-in_err-second_line g c =
    let f = g.K.Sample.parts in
    let p = c.args.self.now in
    let by = g.S.LineSolver.meaning in
    let source = map f c.args.halves.now in
    let fits : SFits w32 c.from.result = search rules in
    let next_fits : SFits w32 (c.from.result +ℤ pos 1) = search rules in
    let number = given_next c.from.result fits next_fits ∙ ap (λ z. z +ℤ pos 1) c.from.ensures in
    let low = subst (λ n. c.loop-j.j < n) c.second_lines-j-end.ensures c.loop-j-test.true in
    let taken = second_turn g.K.Sample.PARTS p by source (map f c.args.controls.now) c.requires.0 c.requires.1 c.loop-j.self (map f c.loop-j.controls) _ c.loop-j.j c.loop-j.invariant.0 c.loop-j.invariant.1 number low in
    let refused = c.in_err-second_line.ensures.answer in
    let z : ◌≡◌ {A = ℕ} 0 1 = cc in
    absurd (omega arith)

pub loop-j-preserved : goal.loop-j-preserved
loop-j-preserved g c =
    let f = g.K.Sample.parts in
    let p = c.args.self.now in
    let by = g.S.LineSolver.meaning in
    let source = map f c.args.halves.now in
    let fits : SFits w32 c.from.result = search rules in
    let next_fits : SFits w32 (c.from.result +ℤ pos 1) = search rules in
    let number = given_next c.from.result fits next_fits ∙ ap (λ z. z +ℤ pos 1) c.from.ensures in
    let low = subst (λ n. c.loop-j.j < n) c.second_lines-j-end.ensures c.loop-j-test.true in
    let done = c.in_ok-second_line.ensures in (
      done.panel ∙ second_turn_panel g.K.Sample.PARTS p by source (map f c.args.controls.now) c.requires.0 c.requires.1 c.loop-j.self (map f c.loop-j.controls) _ c.loop-j.j c.loop-j.invariant.0 c.loop-j.invariant.1 number low,
      done.after ∙ second_turn_controls g.K.Sample.PARTS p by source (map f c.args.controls.now) c.requires.0 c.requires.1 c.loop-j.self (map f c.loop-j.controls) _ c.loop-j.j c.loop-j.invariant.0 c.loop-j.invariant.1 number low,
    )
