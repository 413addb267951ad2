use Rattle.std.proofs.Common.{◌≡◌, ◌+◌, ◌-◌, map, Some, None, Err, sym, ap, ◌∙◌, subst, arith, w32, SFits, rules}
use Rattle.surface.specs.Patch.{within_reach}
use Rattle.panel_fault.specs.declared.PanelFault.TheVariants.{ControlBeyond}
use Rattle.panel.specs.Reading.{around, reading, sample_shown}
use Rattle.grid.proofs.Chains.{exit}
use Rattle.panel.proofs.ReadCall.{ReadTo, none_read, within_out, sampled_beyond, read_none, read_more, read_all}
use Rattle.panel.proofs.view.View.reading.Goals as goal

pub loop-part-init : goal.loop-part-init
loop-part-init g c = record { counted = omega arith; so_far = read_none c.args.self.now.panel.now (map g.K.Sample.parts c.args.self.now.controls.now) c.args.self.now.x c.args.self.now.y _ }

pub returns-in_err-value : goal.returns-in_err-value
returns-in_err-value g c =
    let p = c.args.self.now.panel.now in
    let controls = map g.K.Sample.parts c.args.self.now.controls.now in
    let k = c.loop-part.part - 1 in
    let back : c.loop-part.part ≡ k + 1 = omega (arith, c.loop-part.invariant.counted) in
    let none : c.part_reading.result ≡ None = search rules in
    let out = none_read (within_reach (around p controls c.loop-part.part c.args.self.now.x c.args.self.now.y)) (reading p controls c.args.self.now.x c.args.self.now.y c.loop-part.part) (sym none ∙ c.part_reading.ensures) in
    let fault : c.in_err-value.field-0.0 ≡ ControlBeyond = search rules in
    ap (sample_shown g.K.Sample.parts) (exit _ c.from_residual.ensures.1) ∙ ap Err fault ∙ sampled_beyond g.K.Sample.PARTS p controls c.args.self.now.x c.args.self.now.y (within_out p controls c.args.self.now.x c.args.self.now.y k g.K.Sample.PARTS (omega (arith, c.PARTS-part-end.ensures, back)) (rw back at out))

pub loop-part-preserved : goal.loop-part-preserved
loop-part-preserved g c =
    let p = c.args.self.now.panel.now in
    let controls = map g.K.Sample.parts c.args.self.now.controls.now in
    let some : c.part_reading.result ≡ Some c.in_ok-value.value = search rules in
    let fits : SFits w32 c.in_ok-value.value = search rules in
    let now : c.loop-part.part ≡ c.loop-part.part + 1 - 1 = omega arith in
    record {
      counted = omega arith;
      so_far = subst (λ n. ReadTo p controls c.args.self.now.x c.args.self.now.y n (g.K.Sample.parts c.replace_part-sample.result)) now
          (read_more p controls c.args.self.now.x c.args.self.now.y (g.K.Sample.parts c.loop-part.sample) c.loop-part.part _ c.in_ok-value.value c.loop-part.invariant.counted
          (omega (arith, c.PARTS-part-end.ensures, g.met.K.Sample.counted.2 c.loop-part.sample)) c.loop-part.invariant.so_far (sym some ∙ c.part_reading.ensures) fits c.replace_part-sample.ensures);
    }

pub returns : goal.returns
returns g c =
    let p = c.args.self.now.panel.now in
    let controls = map g.K.Sample.parts c.args.self.now.controls.now in
    let done : c.loop-part.part - 1 ≡ g.K.Sample.PARTS = omega (arith, c.PARTS-part-end.ensures, g.met.K.Sample.counted.0) in
    read_all p controls c.args.self.now.x c.args.self.now.y (g.K.Sample.parts c.loop-part.sample) g.K.Sample.PARTS (g.met.K.Sample.counted.2 c.loop-part.sample)
    (subst (λ n. ReadTo p controls c.args.self.now.x c.args.self.now.y n (g.K.Sample.parts c.loop-part.sample)) done c.loop-part.invariant.so_far)
