use Rattle.std.proofs.Common.{map}
use Rattle.panel.specs.Calls.{make_result}
use Rattle.panel.proofs.Given.{given_two}
use Rattle.panel.proofs.Steps.{whole_grid, make_begins, make_has_surface}
use Rattle.panel.proofs.record.Panel.make.Goals as goal

pub returns : goal.returns
returns g c =
    let f = g.K.Sample.parts in
    let samples = map f c.args.samples.now in
    let halves = map f c.args.halves.now in
    let controls = map f c.args.controls.now in
    let answer = given_two (λ m n. make_result m n c.args.order samples halves controls) c.made.result c.args.rows c.args.columns c.ranges.rows c.ranges.columns c.made.ensures in
    record {
      answer = answer;
      surface = make_has_surface g.K.Sample.PARTS c.args.rows c.args.columns c.args.order samples halves controls c.made.result answer;
      reached = make_begins g.K.Sample.PARTS c.args.rows c.args.columns c.args.order samples halves controls c.made.result answer
          (whole_grid f g.K.Sample.PARTS g.met.K.Sample.counted.2 c.args.samples.now);
    }
