use Rattle.std.proofs.Common.{map, w32}
use Rattle.std.proofs.lemmas.Int.{to_z-of_z}
use Rattle.panel.proofs.Steps.{probe_reaches}
use Rattle.panel.proofs.record.Panel.probe.Goals as goal

pub returns : goal.returns
returns g c =
    let row = to_z-of_z w32 c.args.row c.ranges.row in
    let column = to_z-of_z w32 c.args.column c.ranges.column in
    let answer = rw (row, column) at c.put.ensures.answer in
    let panel = rw (row, column) at c.put.ensures.panel in
    let after = rw (row, column) at c.put.ensures.after in
    record {
      answer = answer;
      panel = panel;
      after = after;
      same = rw (row, column) at c.put.ensures.same;
      reached = λ made halves controls h reached.
          probe_reaches g.K.Sample.PARTS made h c.args.self.now (map g.K.Sample.parts c.args.samples.now) halves controls reached
          c.args.row c.args.column (g.K.Sample.parts c.args.new) _ _ _ (g.met.K.Sample.counted.2 c.args.new) answer panel after;
    }
