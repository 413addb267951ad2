use Rattle.std.proofs.Common.{◌≡◌, ◌≤◌, true, map, length, sym, ap, ◌∙◌, subst, ap₂, subst₂, arith, rules}
use Rattle.std.proofs.lemmas.Bool.{false≢true}
use Rattle.panel.specs.Calls.{first_lines, second_lines, all_current}
use Rattle.panel.specs.Fit.{seconds_panel, controls_fitted, SecondReady}
use Rattle.panel.proofs.Invariant.{few_lines}
use Rattle.panel.proofs.WholeFit.{ready_to_fit, ready_for_second, all_ran_current}
use Rattle.panel.proofs.record.Panel.fitted.Goals as goal

pub fit_first_lines-requires : goal.fit_first_lines-requires
fit_first_lines-requires g c =
    let f = g.K.Sample.parts in
    (ready_to_fit c.args.self.now (map f c.args.samples.now) (map f c.args.halves.now) (map f c.args.controls.now) (sym c.in_ok-may_fit.ensures)).0

pub fit_second_lines-requires : goal.fit_second_lines-requires
fit_second_lines-requires g c =
    let f = g.K.Sample.parts in
    let p = c.args.self.now in
    let first = g.S.LineSolver.meaning in
    let controls = map f c.args.controls.now in
    let ready = ready_to_fit p (map f c.args.samples.now) (map f c.args.halves.now) controls (sym c.in_ok-may_fit.ensures) in
    let few = few_lines p ready.0.rows_within ready.0.columns_within in
    let long : length p.first ≡ 64 = search rules in
    let low : first_lines p ≤ length p.first = omega arith in
    let panel = c.fit_first_lines.ensures.panel in (
      subst₂ (λ q halves. SecondReady g.K.Sample.PARTS q halves controls) (sym panel) (sym c.fit_first_lines.ensures.after)
          (ready_for_second g.K.Sample.PARTS p first g.met.S.LineSolver.sound (map f c.args.samples.now) (map f c.args.halves.now) controls ready.0 ready.1),
      subst (λ q. all_current (first_lines q) q.first ≡ true) (sym panel) (all_ran_current p.first first.grade (first_lines p) low),
    )

pub returns : goal.returns
returns g c =
    let f = g.K.Sample.parts in
    let p = c.args.self.now in
    let second = g.T.LineSolver.meaning in
    let ok = sym c.in_ok-may_fit.ensures in
    let panel = c.fit_first_lines.ensures.panel in
    let halves = c.fit_first_lines.ensures.after in
    record {
      answer = sym ok;
      panel = rw ok (c.fit_second_lines.ensures.panel ∙ ap (λ q. seconds_panel q second (second_lines q)) panel);
      halves = rw ok halves;
      controls = rw ok (c.fit_second_lines.ensures.after ∙ ap₂ (λ q half. controls_fitted g.K.Sample.PARTS q second half (map f c.args.controls.now) (second_lines q)) panel halves);
      same = λ wrong. absurd (false≢true wrong);
    }
