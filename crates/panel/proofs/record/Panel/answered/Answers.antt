use Rattle.std.proofs.Common.{map, nat_abs, sym, ap, ◌∙◌, w32, to_z, of_z}
use Rattle.std.proofs.lemmas.List.{length-map}
use Rattle.grid.proofs.Chains.{exit}
use Rattle.panel.specs.Reading.{shown, tolerance}
use Rattle.panel.proofs.Given.{given_two}
use Rattle.panel.proofs.ReadCall.{asked, sampled, stated_all, stated_refused, read_past, read_out, read_long, read_area}
use Rattle.panel.proofs.record.Panel.answered.Goals as goal

pub returns-in_err-may_read : goal.returns-in_err-may_read
returns-in_err-may_read g c =
    let p = c.args.self.now in
    let controls = map g.K.Sample.parts c.args.controls.now in
    let no = given_two (asked p controls) _ c.args.x c.args.y c.ranges.x c.ranges.y c.in_err-may_read.ensures in
    ap (shown g.K.Sample.parts) (exit _ c.from_residual.ensures.1) ∙ sym (read_out p controls c.args.x c.args.y g.K.Sample.PARTS _ no)

pub invariant_of-view : goal.invariant_of-view
invariant_of-view g c =
    let p = c.args.self.now in
    let controls = map g.K.Sample.parts c.args.controls.now in
    let ok = c.in_ok-may_read.ensures in
    let x = to_z w32 (of_z w32 c.args.x) in
    let y = to_z w32 (of_z w32 c.args.y) in
    record { sized = sym (length-map c.args.controls.now g.K.Sample.parts) ∙ read_long p controls x y ok; in_area = read_area p controls x y ok }

pub returns-in_err-sample : goal.returns-in_err-sample
returns-in_err-sample g c =
    let p = c.args.self.now in
    let controls = map g.K.Sample.parts c.args.controls.now in
    let ok = given_two (asked p controls) _ c.args.x c.args.y c.ranges.x c.ranges.y c.in_ok-may_read.ensures in
    let no = given_two (λ x y. sampled g.K.Sample.PARTS p controls (nat_abs x) (nat_abs y)) _ c.args.x c.args.y c.ranges.x c.ranges.y c.in_err-sample.ensures in
    ap (shown g.K.Sample.parts) (exit _ c.from_residual-in_err-sample.ensures.1)
    ∙ stated_refused g.K.Sample.PARTS p controls (nat_abs c.args.x) (nat_abs c.args.y) _ no ∙ sym (read_past p controls c.args.x c.args.y g.K.Sample.PARTS ok)

pub returns : goal.returns
returns g c =
    let p = c.args.self.now in
    let controls = map g.K.Sample.parts c.args.controls.now in
    let ok = given_two (asked p controls) _ c.args.x c.args.y c.ranges.x c.ranges.y c.in_ok-may_read.ensures in
    let sample = given_two (λ x y. sampled g.K.Sample.PARTS p controls (nat_abs x) (nat_abs y)) _ c.args.x c.args.y c.ranges.x c.ranges.y c.in_ok-sample.ensures in
    let near = given_two (λ x y. tolerance p (nat_abs x) (nat_abs y)) _ c.args.x c.args.y c.ranges.x c.ranges.y c.tolerance.ensures in
    stated_all g.K.Sample.PARTS p controls (nat_abs c.args.x) (nat_abs c.args.y) (g.K.Sample.parts c.in_ok-sample.sample) c.tolerance.result sample near
    ∙ sym (read_past p controls c.args.x c.args.y g.K.Sample.PARTS ok)
