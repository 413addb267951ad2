-- By trial of each.
use Rattle.std.proofs.Common.{arith}
use Rattle.surface.proofs.Weights.{cubed}
use Rattle.surface.proofs.patch.cube.Goals as goal

pub returns : goal.returns
returns c = let (value, low) = cubed c.args.t (omega arith) in record { value = value; low = low }
