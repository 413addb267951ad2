use Rattle.std.proofs.Common.{◌≡◌, ◌+◌, ◌-◌, map}
use Rattle.panel.specs.Calls.{solver_takes}
use Rattle.panel.specs.Lane.{laned, Filled, Narrow}
use Rattle.panel.proofs.source.Source.solve.Given as goal

abbrev pub invariant-loop-q : goal.invariant-loop-q
invariant-loop-q g l =
    let lines = laned l.self.scale (map g.K.Sample.parts l.self.grid.now) l.self.lane in record {
      answer : solver_takes l.number (l.q + 1) (g.K.Sample.PARTS - l.q) lines ≡ solver_takes l.number 1 g.K.Sample.PARTS lines;
      filled : Filled l.q l.self.lane.count g.S.LineSolver.meaning.rule lines l.line-items;
      narrow : Narrow l.line-items;
    }
