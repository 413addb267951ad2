-- What the loop over the parts of a sample keeps.
use Rattle.std.proofs.Common.{◌≡◌, ℕ, ◌+◌, ◌*◌, ◌<◌, get_or, pos}
use Rattle.panel_file.specs.Field.{part_at}
use Rattle.panel_file.proofs.filled.sample_from.Given as goal

-- the parts before k are those of the bytes
abbrev pub invariant-loop-k : goal.invariant-loop-k
invariant-loop-k g l = (j : ℕ) → j < l.k → get_or (g.K.Sample.parts l.sample) j (pos 0) ≡ part_at l.bytes (0 + j * 4)
