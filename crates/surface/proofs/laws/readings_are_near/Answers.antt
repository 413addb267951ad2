-- At every place, and at a grid place.
use Rattle.surface.proofs.GridLaws.{reads_near, reads_sample}
use Rattle.surface.proofs.laws.readings_are_near.Goals as goal

pub returns : goal.returns
returns c = record { surface = reads_near; sample = reads_sample }
