use Rattle.std.proofs.Common.{◌≡◌, map}
use Rattle.panel.specs.Fit.{firsts_panel, halves_fitted}
use Rattle.panel.proofs.record.Panel.fit_first_lines.Given as goal

abbrev pub invariant-loop-i : goal.invariant-loop-i
invariant-loop-i g l =
    (l.self ≡ firsts_panel l.initial.self g.S.LineSolver.meaning l.i) ×
    (map g.K.Sample.parts l.halves ≡ halves_fitted g.K.Sample.PARTS l.initial.self g.S.LineSolver.meaning (map g.K.Sample.parts l.samples) (map g.K.Sample.parts l.initial.halves) l.i)
