-- The name is refused.
use Rattle.std.proofs.Common.{ap, ◌∙◌, sym}
use Rattle.grid.proofs.Chains.{exit, stop}
use Rattle.panel_file.specs.Open.{shown, open_answer}
use Rattle.panel_file.proofs.Sections.{third}
use Rattle.panel_file.proofs.opened.checked.Goals as goal

pub returns-in_err-name : goal.returns-in_err-name
returns-in_err-name c =
    let sizes = c.in_ok-shape.ensures in
    ap shown (exit _ c.from_residual-in_err-name.ensures.1)
    ∙ sym (stop (open_answer c.args.file.now) _ _ (third c.args.file.now _ _ _ _ sizes.0 sizes.1 sizes.2 c.in_ok-end.ensures c.in_err-name.ensures))
