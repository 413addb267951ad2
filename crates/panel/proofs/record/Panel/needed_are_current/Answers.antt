use Rattle.std.proofs.Common.{ap, ◌∙◌}
use Rattle.std.specs.List.{list_all}
use Rattle.panel.specs.Calls.{mark, is_current}
use Rattle.panel.specs.Reading.{needed_current}
use Rattle.panel.proofs.record.Panel.needed_are_current.Goals as goal

pub returns : goal.returns
unfolding needed_current
returns c = c.are_current.ensures ∙ ap (list_all (λ line. is_current (mark c.args.self.now.second line))) c.needed.ensures
