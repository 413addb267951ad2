-- The answer and the grid are the defined ones, and so exact.
use Rattle.std.proofs.Common.{length}
use Rattle.std.proofs.lemmas.List.{length-map}
use Rattle.panel_file.proofs.Exactly.{fills}
use Rattle.panel_file.proofs.filled.fill.Goals as goal

pub returns-clause-exact : goal.returns-clause-exact
returns-clause-exact g c =
    fills g.K.Sample.PARTS c.args.file.now (λ at. (c.type_inv.file at).fits) (length c.args.grid.now) _ _ _ (length-map c.args.grid.now g.K.Sample.parts) c.filled.ensures.answer c.filled.ensures.after
