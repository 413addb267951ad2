use Rattle.std.proofs.Common.{◌-◌, ◌≤◌, map}
use Rattle.panel.proofs.ReadCall.{ReadTo}
use Rattle.panel.proofs.view.View.reading.Given as goal

abbrev pub invariant-loop-part : goal.invariant-loop-part
invariant-loop-part g l = record {
  counted : 1 ≤ l.part;
  so_far : ReadTo l.self.panel.now (map g.K.Sample.parts l.self.controls.now) l.self.x l.self.y (l.part - 1) (g.K.Sample.parts l.sample);
}
