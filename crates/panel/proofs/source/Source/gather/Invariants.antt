use Rattle.std.proofs.Common.{◌≡◌, ℕ, ◌<◌, [], map, get_or, pos, ◌*ℤ◌}
use Rattle.grid.specs.Sample.{part_of}
use Rattle.panel.specs.Lane.{on_lane}
use Rattle.panel.proofs.source.Source.gather.Given as goal

abbrev pub invariant-loop-e : goal.invariant-loop-e
invariant-loop-e g l =
    (k : ℕ) → k < l.e → get_or l.line k (pos 0) ≡ pos l.self.scale *ℤ part_of (get_or (map g.K.Sample.parts l.self.grid.now) (on_lane l.self.lane k) []) l.part
