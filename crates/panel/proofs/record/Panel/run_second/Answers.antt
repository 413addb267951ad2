use Rattle.std.proofs.Common.{◌≡◌, map, nat_abs, Ok, Err, sym, refl, ◌∙◌, arith, w32}
use Rattle.std.proofs.lemmas.List.{length-map}
use Rattle.std.proofs.lemmas.Int.{to_z-of_z}
use Rattle.std.proofs.lemmas.Bool.{false≢true}
use Rattle.grid.specs.Checks.{check}
use Rattle.grid.proofs.Chains.{exit}
use Rattle.panel_fault.specs.declared.PanelFault.TheVariants.{FirstStale}
use Rattle.panel.specs.Calls.{all_current, first_lines, second_lines, second_answer}
use Rattle.panel.proofs.LineCalls.{numbered, second_past, second_within, second_takes, second_stored}
use Rattle.panel.proofs.record.Panel.run_second.Goals as goal

pub invariant_of-source : goal.invariant_of-source
invariant_of-source g c =
    let f = g.K.Sample.parts in
    let p = c.args.self.now in
    let line = to_z-of_z w32 c.args.line c.ranges.line in
    let ok = rw (line, c.second_lines.ensures) at c.in_ok-may_run.ensures in
    let n = numbered f p c.args.halves.now c.args.controls.now c.args.line (second_lines p) (sym ok) in
    let lane = rw line at c.second_lane-lane.ensures in
    record { inside = second_within p (nat_abs c.args.line) _ _ n.long_xs lane n.on; low = omega arith }

pub returns-in_err-fit_line : goal.returns-in_err-fit_line
returns-in_err-fit_line g c =
    let f = g.K.Sample.parts in
    let p = c.args.self.now in
    let line = to_z-of_z w32 c.args.line c.ranges.line in
    let ok = rw (line, c.second_lines.ensures) at c.in_ok-may_run.ensures in
    let n = numbered f p c.args.halves.now c.args.controls.now c.args.line (second_lines p) (sym ok) in
    let lane = rw line at c.second_lane-lane.ensures in
    let fresh : check (all_current (first_lines p) p.first) FirstStale ≡ Ok tt = rw c.first_lines_are_current.ensures at (sym c.in_ok-check.ensures) in
    let no : second_answer g.K.Sample.PARTS p (map f c.args.halves.now) (map f c.args.controls.now) c.args.line ≡ Err _ =
    second_past g.K.Sample.PARTS p (map f c.args.halves.now) (map f c.args.controls.now) c.args.line (sym ok) fresh ∙ sym (rw line at c.in_err-fit_line.ensures.answer ∙ second_takes g.K.Sample.PARTS p (map f c.args.halves.now) (nat_abs c.args.line) (nat_abs c.args.line) _ refl lane) in
    record { answer = exit _ c.from_residual-in_err-fit_line.ensures.1 ∙ sym no; panel = rw no refl; after = rw no c.in_err-fit_line.ensures.after; same = λ _. c.in_err-fit_line.ensures.same refl }

pub returns : goal.returns
returns g c =
    let f = g.K.Sample.parts in
    let p = c.args.self.now in
    let line = to_z-of_z w32 c.args.line c.ranges.line in
    let ok = rw (line, c.second_lines.ensures) at c.in_ok-may_run.ensures in
    let n = numbered f p c.args.halves.now c.args.controls.now c.args.line (second_lines p) (sym ok) in
    let lane = rw line at c.second_lane-lane.ensures in
    let fresh : check (all_current (first_lines p) p.first) FirstStale ≡ Ok tt = rw c.first_lines_are_current.ensures at (sym c.in_ok-check.ensures) in
    let done : second_answer g.K.Sample.PARTS p (map f c.args.halves.now) (map f c.args.controls.now) c.args.line ≡ Ok tt =
    second_past g.K.Sample.PARTS p (map f c.args.halves.now) (map f c.args.controls.now) c.args.line (sym ok) fresh ∙ sym (rw line at c.in_ok-fit_line.ensures.answer ∙ second_takes g.K.Sample.PARTS p (map f c.args.halves.now) (nat_abs c.args.line) (nat_abs c.args.line) _ refl lane) in
    record {
      answer = sym done;
      panel = rw (done, g.met.S.LineSolver.graded, ← c.GRADE.ensures) (rw line at c.second_ran.ensures);
      after = rw done (c.in_ok-fit_line.ensures.after ∙ second_stored g.K.Sample.PARTS p (map f c.args.halves.now) (nat_abs c.args.line) (nat_abs c.args.line) _ refl g.S.LineSolver.meaning (map f c.args.controls.now)
          (length-map c.args.controls.now f ∙ n.long_ys) lane n.on);
      same = λ no. absurd (false≢true no);
    }
