-- One sample more of a grid.
use Rattle.std.proofs.Common.{◌+◌, ◌*◌, [], map, length, ◌∙◌, arith}
use Rattle.std.proofs.lemmas.List.FromFn.{fill_by_all}
use Rattle.std.proofs.lemmas.List.{length-map}
use Rattle.panel_file.specs.Fill.{parts_at}
use Rattle.panel_file.proofs.Bytes.{parts_within}
use Rattle.panel_file.proofs.Stored.{sample_more}
use Rattle.panel_file.proofs.filled.store.Goals as goal

pub loop-i-preserved : goal.loop-i-preserved
loop-i-preserved g c =
    sample_more g.K.Sample.parts (λ j. parts_at c.args.file.now g.K.Sample.PARTS (7 + j * (g.K.Sample.PARTS * 4))) c.loop-i.grid c.loop-i.i c.sample_from.result
    (c.sample_from.ensures ∙ rw c.PARTS-width.ensures (parts_within c.args.file.now (7 + c.loop-i.i * (g.K.Sample.PARTS * 4)) _ g.K.Sample.PARTS (omega arith))) (omega arith) c.loop-i.invariant

pub returns : goal.returns
returns g c =
    fill_by_all (λ j. parts_at c.args.file.now g.K.Sample.PARTS (7 + j * (g.K.Sample.PARTS * 4))) (map g.K.Sample.parts c.loop-i.grid) (length c.args.grid.now) []
    (length-map c.loop-i.grid g.K.Sample.parts ∙ c.loop-i.auto.grid) (λ j low. c.loop-i.invariant j (omega arith))
