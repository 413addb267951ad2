-- What was solved is the rule's, entry by entry.
use Rattle.std.proofs.Common.{map, ◌∙◌}
use Rattle.panel.specs.Lane.{laned, column, rule_column}
use Rattle.panel.proofs.Stored.{stored_same, columns_same}
use Rattle.panel.proofs.Fitted.{narrow_zeros}
use Rattle.panel.proofs.source.fit_line.Goals as goal

pub returns-clause-after : goal.returns-clause-after
returns-clause-after g c =
    let lines = laned c.args.source.now.scale (map g.K.Sample.parts c.args.source.now.grid.now) c.args.source.now.lane in
    let filled = c.in_ok-answer.ensures.filled in
    c.store.ensures
    ∙ stored_same c.args.source.now.lane (column g.K.Sample.PARTS c.solve-answer.new.parts) (rule_column g.K.Sample.PARTS g.S.LineSolver.meaning.rule lines) (map g.K.Sample.parts c.args.target.now)
    c.args.source.now.lane.count (λ e h. columns_same g.K.Sample.PARTS c.args.source.now.lane.count g.S.LineSolver.meaning.rule lines c.solve-answer.new.parts filled.1 e h)

pub solve-answer-requires : goal.solve-answer-requires
solve-answer-requires g c = narrow_zeros
