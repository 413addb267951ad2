-- A file that is refused refuses the grid.
use Rattle.std.proofs.Common.{sym, ap, ◌∙◌}
use Rattle.grid.proofs.Chains.{exit, refused_by, stop}
use Rattle.panel_file.specs.Open.{open_answer, summary}
use Rattle.panel_file.specs.Fill.{of_file}
use Rattle.panel_file.proofs.filled.admit.Goals as goal

pub returns-in_err-opened-clause-answer : goal.returns-in_err-opened-clause-answer
returns-in_err-opened-clause-answer c =
    let file = c.args.file.now in
    exit _ c.from_residual.ensures.1 ∙ sym (stop (of_file (open_answer file)) _ _ (ap of_file (refused_by (open_answer file) (summary file) _ c.in_err-opened.ensures.answer)))
