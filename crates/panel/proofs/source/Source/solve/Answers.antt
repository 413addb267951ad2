use Rattle.std.proofs.Common.{◌≡◌, ℕ, ◌+◌, ◌-◌, ◌<◌, [], ◌++◌, map, length, get_or, drop, pos, sym, refl, ap, ◌∙◌, arith, Ok}
use Rattle.std.proofs.lemmas.List.{get_or-drop, length-take}
use Rattle.std.proofs.lemmas.List.FromFn.{length-map-range_with_len}
use Rattle.grid.proofs.Chains.{exit}
use Rattle.line.specs.Solve.{solve_answer}
use Rattle.panel_fault.specs.Refusal.{as_answer}
use Rattle.panel.specs.Calls.{solver_took}
use Rattle.panel.specs.Lane.{laned}
use Rattle.panel.proofs.Passed.{took}
use Rattle.panel.proofs.Lanes.{takes_on, takes_out}
use Rattle.panel.proofs.Fitted.{long_line, fills, stays_narrow}
use Rattle.panel.proofs.source.Source.solve.Goals as goal

pub returns-then-self-gt-LONGEST-clause-answer : goal.returns-then-self-gt-LONGEST-clause-answer
returns-then-self-gt-LONGEST-clause-answer g c =
    let lines = laned c.args.self.now.scale (map g.K.Sample.parts c.args.self.now.grid.now) c.args.self.now.lane in
    let n : length (lines 1) ≡ c.args.self.now.lane.count = length-map-range_with_len _ 0 c.args.self.now.lane.count in
    let e = long_line (lines 1) (omega arith) in
    sym (takes_out c.args.number 1 lines g.K.Sample.PARTS (omega (arith, g.met.K.Sample.counted.0)) (rw e refl))

pub loop-q-preserved : goal.loop-q-preserved
loop-q-preserved g c =
    let lines = laned c.args.self.now.scale (map g.K.Sample.parts c.args.self.now.grid.now) c.args.self.now.lane in
    let q = c.loop-q.q in
    let n = c.args.self.now.lane.count in
    let rows = c.loop-q.line-items in
    let low : q < length rows = omega arith in
    let few : q < g.K.Sample.PARTS = omega (arith, c.loop-q.auto.line-items, length-take c.PARTS.result c.args.parts.now, c.PARTS.ensures) in
    let all : (k : ℕ) → length (lines k) ≡ n = λ k. length-map-range_with_len _ 0 n in
    let past = drop n (get_or rows q []) in
    let next : c.solve_part.new.out ≡ g.S.LineSolver.meaning.rule (lines (q + 1)) ++ past = rw (c.in_ok-solve_part.was) at c.solve_part.ensures.after in
    let taken : solve_answer (lines (q + 1)) n ≡ Ok tt = took c.args.number (q + 1) _ (sym (rw (c.in_ok-solve_part.was) at c.solve_part.ensures.answer)) in
    let m : g.K.Sample.PARTS - (q + 1) ≡ g.K.Sample.PARTS - q - 1 = omega arith in
    record {
      answer = rw m (sym (takes_on c.args.number (q + 1) lines (g.K.Sample.PARTS - q) (omega arith)
          (sym (ap (solver_took c.args.number (q + 1)) (ap (solve_answer (lines (q + 1))) (all (q + 1)) ∙ taken))))
          ∙ c.loop-q.invariant.answer);
      filled = rw next (fills q n lines g.S.LineSolver.meaning g.met.S.LineSolver.sound rows low all past c.loop-q.invariant.filled);
      narrow = rw next (stays_narrow q n lines g.S.LineSolver.meaning g.met.S.LineSolver.sound rows low all past taken
          (λ e. rw (get_or-drop n (get_or rows q []) e (pos 0)) (c.loop-q.invariant.narrow q (n + e))) c.loop-q.invariant.narrow);
    }

pub returns-in_err-solve_part-clause-answer : goal.returns-in_err-solve_part-clause-answer
returns-in_err-solve_part-clause-answer g c =
    let lines = laned c.args.self.now.scale (map g.K.Sample.parts c.args.self.now.grid.now) c.args.self.now.lane in
    let q = c.loop-q.q in
    let n = c.args.self.now.lane.count in
    let few : q < g.K.Sample.PARTS = omega (arith, c.loop-q.auto.line-items, length-take c.PARTS.result c.args.parts.now, c.PARTS.ensures) in
    let all : length (lines (q + 1)) ≡ n = length-map-range_with_len _ 0 n in
    let refused = rw (c.in_err-solve_part.was) at c.solve_part.ensures.answer in
    ap as_answer (exit _ c.from_residual.ensures.1)
    ∙ sym (takes_out c.args.number (q + 1) lines (g.K.Sample.PARTS - q) (omega arith) (refused ∙ ap (λ m. solver_took c.args.number (q + 1) (solve_answer (lines (q + 1)) m)) (sym all)))
    ∙ c.loop-q.invariant.answer
