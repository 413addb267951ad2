use Rattle.std.proofs.Common.{map, ◌∙◌}
use Rattle.panel.specs.Calls.{second_answer, second_panel, second_controls}
use Rattle.panel.proofs.Given.{given_one}
use Rattle.panel.proofs.Accepted.{second_accepted}
use Rattle.panel.proofs.Steps.{state, second_reaches}
use Rattle.panel.proofs.record.Panel.second_line.Goals as goal

pub returns : goal.returns
returns g c =
    let f = g.K.Sample.parts in
    let p = c.args.self.now in
    let solver = g.S.LineSolver.meaning in
    let answer = given_one (second_answer g.K.Sample.PARTS p (map f c.args.halves.now) (map f c.args.controls.now)) _ c.args.line c.ranges.line c.run_second.ensures.answer in
    let panel = given_one (second_panel g.K.Sample.PARTS p solver (map f c.args.halves.now) (map f c.args.controls.now)) _ c.args.line c.ranges.line c.run_second.ensures.panel in
    let after = given_one (second_controls g.K.Sample.PARTS p solver (map f c.args.halves.now) (map f c.args.controls.now)) _ c.args.line c.ranges.line c.run_second.ensures.after in
    record {
      answer = answer;
      panel = panel;
      after = after;
      same = c.run_second.ensures.same;
      reached = λ made samples h reached. (
        answer ∙ second_accepted g.K.Sample.PARTS made (state p samples (map f c.args.halves.now) (map f c.args.controls.now)) h reached c.args.line,
        second_reaches g.K.Sample.PARTS made h p samples (map f c.args.halves.now) (map f c.args.controls.now) reached solver g.met.S.LineSolver.sound c.args.line _ _ _ answer panel after,
      );
    }
