use Rattle.std.proofs.Common.{rules}
use Rattle.std.proofs.lemmas.List.Edits.{map_over_more}
use Rattle.panel.specs.Calls.{let_go}
use Rattle.panel.proofs.marks.let_go.Goals as goal

pub loop-mark-preserved : goal.loop-mark-preserved
loop-mark-preserved c = search (rules, map_over_more let_go)
