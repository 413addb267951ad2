-- Elimination finds whole solutions.
use Rattle.std.proofs.Common.{arith}
use Rattle.line.specs.FixedPoint.{scale}
use Rattle.line.specs.Elimination.{elimination}
use Rattle.line.specs.Sweeps.{finer, finer_near}
use Rattle.line.specs.Eliminated.{rounds}
use Rattle.line.proofs.Refined.{FindsWhole, whole_rounded}

pub finds_whole : FindsWhole elimination
finds_whole = whole_rounded elimination scale 12 (omega arith) finer rounds finer_near
