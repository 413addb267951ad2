-- The answer is the defined one, and so exact.
use Rattle.panel_file.proofs.Exactly.{opens, one_encoding}
use Rattle.panel_file.proofs.opened.open.Goals as goal

pub returns-clause-exact : goal.returns-clause-exact
returns-clause-exact c = opens c.args.file.now (λ at. (c.type_inv.file at).fits) _ c.checked.ensures

pub returns-clause-one_content : goal.returns-clause-one_content
returns-clause-one_content c = one_encoding
