use Rattle.std.proofs.Common.{◌≡◌, ℕ, ◌<◌, ◌+ℤ◌, pos, map, ap, ◌∙◌, subst, arith, w32, SFits, rules}
use Rattle.panel.proofs.Given.{given_next}
use Rattle.panel.proofs.WholeFit.{first_turn, first_turn_panel, first_turn_halves}
use Rattle.panel.proofs.record.Panel.fit_first_lines.Goals as goal

pub returns-in_err-first_line : goal.returns-in_err-first_line
returns-in_err-first_line g c =
    let f = g.K.Sample.parts in
    let p = c.args.self.now in
    let by = g.S.LineSolver.meaning in
    let source = map f c.args.samples.now in
    let fits : SFits w32 c.from.result = search rules in
    let next_fits : SFits w32 (c.from.result +ℤ pos 1) = search rules in
    let number = given_next c.from.result fits next_fits ∙ ap (λ z. z +ℤ pos 1) c.from.ensures in
    let low = subst (λ n. c.loop-i.i < n) c.first_lines-i-end.ensures c.loop-i-test.true in
    let taken = first_turn g.K.Sample.PARTS p by source (map f c.args.halves.now) c.requires c.loop-i.self (map f c.loop-i.halves) _ c.loop-i.i c.loop-i.invariant.0 c.loop-i.invariant.1 number low in
    let refused = c.in_err-first_line.ensures.answer in
    let z : ◌≡◌ {A = ℕ} 0 1 = cc in
    absurd (omega arith)

pub loop-i-preserved : goal.loop-i-preserved
loop-i-preserved g c =
    let f = g.K.Sample.parts in
    let p = c.args.self.now in
    let by = g.S.LineSolver.meaning in
    let source = map f c.args.samples.now in
    let fits : SFits w32 c.from.result = search rules in
    let next_fits : SFits w32 (c.from.result +ℤ pos 1) = search rules in
    let number = given_next c.from.result fits next_fits ∙ ap (λ z. z +ℤ pos 1) c.from.ensures in
    let low = subst (λ n. c.loop-i.i < n) c.first_lines-i-end.ensures c.loop-i-test.true in
    let done = c.in_ok-first_line.ensures in (
      done.panel ∙ first_turn_panel g.K.Sample.PARTS p by source (map f c.args.halves.now) c.requires c.loop-i.self (map f c.loop-i.halves) _ c.loop-i.i c.loop-i.invariant.0 c.loop-i.invariant.1 number low,
      done.after ∙ first_turn_halves g.K.Sample.PARTS p by source (map f c.args.halves.now) c.requires c.loop-i.self (map f c.loop-i.halves) _ c.loop-i.i c.loop-i.invariant.0 c.loop-i.invariant.1 number low,
    )
