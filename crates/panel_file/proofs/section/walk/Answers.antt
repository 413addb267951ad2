-- A walk over fields, by whatever step takes one.
use Rattle.std.proofs.Common.{rules}
use Rattle.panel_file.proofs.Walk.{walked}
use Rattle.panel_file.proofs.section.walk.Goals as goal

pub returns : goal.returns
returns g c = λ file fault width holds each. walked file fault width holds _ _ (λ here x v q made. (each here v (search rules), search rules)) _ _ _ _ c.try_fold.ensures.ran
