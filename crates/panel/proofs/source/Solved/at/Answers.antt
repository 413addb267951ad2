use Rattle.std.proofs.Common.{◌≡◌, [], get_or, pos, arith}
use Rattle.std.proofs.lemmas.List.{length-take}
use Rattle.std.proofs.lemmas.List.FromFn.{fill_by_all}
use Rattle.panel.proofs.source.Solved.at.Goals as goal

pub returns : goal.returns
returns g c =
    let lines = c.args.self.now.parts.now in
    let done : g.K.Sample.PARTS ≡ c.loop-q.q = omega (arith, length-take c.PARTS.result lines, c.PARTS.ensures, g.met.K.Sample.counted.1) in
    fill_by_all (λ q. get_or (get_or lines q []) c.args.e (pos 0)) (g.K.Sample.parts c.loop-q.sample) g.K.Sample.PARTS (pos 0) (g.met.K.Sample.counted.2 c.loop-q.sample) (λ k h. c.loop-q.invariant k (omega arith))
