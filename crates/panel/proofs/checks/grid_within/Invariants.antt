use Rattle.std.proofs.Common.{◌≡◌, map, drop}
use Rattle.panel.specs.Calls.{grid_within}
use Rattle.panel.proofs.checks.grid_within.Given as goal

abbrev pub invariant-loop-k : goal.invariant-loop-k
invariant-loop-k g l =
    grid_within l.columns l.k (drop l.k (map g.K.Sample.parts l.samples)) ≡ grid_within l.columns 0 (map g.K.Sample.parts l.samples)
