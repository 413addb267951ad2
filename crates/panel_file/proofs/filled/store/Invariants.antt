-- What the loop over the samples keeps.
use Rattle.std.proofs.Common.{◌≡◌, ℕ, ◌+◌, ◌*◌, ◌<◌, [], map, get_or}
use Rattle.panel_file.specs.Fill.{parts_at}
use Rattle.panel_file.proofs.filled.store.Given as goal

-- the samples before i are the file's
abbrev pub invariant-loop-i : goal.invariant-loop-i
invariant-loop-i g l = (j : ℕ) → j < l.i → get_or (map g.K.Sample.parts l.grid) j [] ≡ parts_at l.file g.K.Sample.PARTS (7 + j * (g.K.Sample.PARTS * 4))
