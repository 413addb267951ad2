use Rattle.std.proofs.Common.{map}
use Rattle.panel.proofs.WholeFit.{fit_reaches}
use Rattle.panel.proofs.record.Panel.fit.Goals as goal

pub returns : goal.returns
returns g c =
    let f = g.K.Sample.parts in
    let done = c.fitted.ensures in
    record {
      answer = done.answer;
      panel = done.panel;
      halves = done.halves;
      controls = done.controls;
      same = done.same;
      reached = λ made h reached.
          fit_reaches g.K.Sample.PARTS made g.S.LineSolver.meaning g.met.S.LineSolver.sound g.T.LineSolver.meaning g.met.T.LineSolver.sound
          c.args.self.now (map f c.args.samples.now) (map f c.args.halves.now) (map f c.args.controls.now) h reached _ _ _ _ done.answer done.panel done.halves done.controls;
    }
