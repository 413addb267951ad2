use Rattle.std.proofs.Common.{◌≡◌, map}
use Rattle.panel.specs.Fit.{seconds_panel, controls_fitted}
use Rattle.panel.proofs.record.Panel.fit_second_lines.Given as goal

abbrev pub invariant-loop-j : goal.invariant-loop-j
invariant-loop-j g l =
    (l.self ≡ seconds_panel l.initial.self g.S.LineSolver.meaning l.j) ×
    (map g.K.Sample.parts l.controls ≡ controls_fitted g.K.Sample.PARTS l.initial.self g.S.LineSolver.meaning (map g.K.Sample.parts l.halves) (map g.K.Sample.parts l.initial.controls) l.j)
