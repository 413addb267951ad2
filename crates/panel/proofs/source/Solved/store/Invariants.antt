use Rattle.std.proofs.Common.{◌≡◌, map}
use Rattle.panel.specs.Lane.{column, stored}
use Rattle.panel.proofs.source.Solved.store.Given as goal

abbrev pub invariant-loop-e : goal.invariant-loop-e
invariant-loop-e g l = map g.K.Sample.parts l.target ≡ stored l.lane (column g.K.Sample.PARTS l.self.parts.now) l.e (map g.K.Sample.parts l.initial.target)
