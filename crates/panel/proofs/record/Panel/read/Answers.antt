use Rattle.std.proofs.Common.{map}
use Rattle.panel.specs.Reading.{read_answer, shown}
use Rattle.panel.proofs.Given.{given_two}
use Rattle.panel.proofs.Faithful.{read_faithful}
use Rattle.panel.proofs.record.Panel.read.Goals as goal

pub returns : goal.returns
returns g c =
    let f = g.K.Sample.parts in
    let answer = given_two (read_answer g.K.Sample.PARTS c.args.self.now (map f c.args.controls.now)) (shown f c.answered.result) c.args.x c.args.y c.ranges.x c.ranges.y c.answered.ensures in
    record {
      answer = answer;
      faithful = λ made samples halves h u v is_x is_y. read_faithful f _ made _ h u v c.args.x c.args.y c.answered.result answer is_x is_y;
    }
