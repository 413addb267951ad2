-- The refusal names the first index beyond the limit, counted from 1.
use Rattle.std.proofs.Common.{sym, ap, ◌∙◌}
use Rattle.line.proofs.Accepted.{beyond, refusal}
use Rattle.line.proofs.solver.within_limit.Goals as goal

pub returns-in-Some : goal.returns-in-Some
returns-in-Some c = sym (beyond c.args.line.now ∙ ap refusal (sym c.index_beyond.ensures ∙ c.in-Some.is))

pub returns-in-None : goal.returns-in-None
returns-in-None c = sym (beyond c.args.line.now ∙ ap refusal (sym c.index_beyond.ensures ∙ c.in-None.is))
