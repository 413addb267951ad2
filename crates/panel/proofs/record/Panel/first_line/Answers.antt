use Rattle.std.proofs.Common.{map, ◌∙◌}
use Rattle.panel.specs.Calls.{first_answer, first_panel, first_halves}
use Rattle.panel.proofs.Given.{given_one}
use Rattle.panel.proofs.Accepted.{first_accepted}
use Rattle.panel.proofs.Steps.{state, first_reaches}
use Rattle.panel.proofs.record.Panel.first_line.Goals as goal

pub returns : goal.returns
returns g c =
    let f = g.K.Sample.parts in
    let p = c.args.self.now in
    let solver = g.S.LineSolver.meaning in
    let answer = given_one (first_answer g.K.Sample.PARTS p (map f c.args.samples.now) (map f c.args.halves.now)) _ c.args.line c.ranges.line c.run_first.ensures.answer in
    let panel = given_one (first_panel g.K.Sample.PARTS p solver (map f c.args.samples.now) (map f c.args.halves.now)) _ c.args.line c.ranges.line c.run_first.ensures.panel in
    let after = given_one (first_halves g.K.Sample.PARTS p solver (map f c.args.samples.now) (map f c.args.halves.now)) _ c.args.line c.ranges.line c.run_first.ensures.after in
    record {
      answer = answer;
      panel = panel;
      after = after;
      same = c.run_first.ensures.same;
      reached = λ made controls h reached. (
        answer ∙ first_accepted g.K.Sample.PARTS made (state p (map f c.args.samples.now) (map f c.args.halves.now) controls) h reached c.args.line,
        first_reaches g.K.Sample.PARTS made h p (map f c.args.samples.now) (map f c.args.halves.now) controls reached solver g.met.S.LineSolver.sound c.args.line _ _ _ answer panel after,
      );
    }
