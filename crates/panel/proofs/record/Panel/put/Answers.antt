use Rattle.std.proofs.Common.{map, sym, refl, w32}
use Rattle.std.proofs.lemmas.List.{length-map, map-set}
use Rattle.std.proofs.lemmas.Int.{to_z-of_z}
use Rattle.panel.proofs.Passed.{probing}
use Rattle.panel.proofs.record.Panel.put.Goals as goal

pub index_of-k-requires : goal.index_of-k-requires
index_of-k-requires g c =
    let row = to_z-of_z w32 c.args.row c.ranges.row in
    let column = to_z-of_z w32 c.args.column c.ranges.column in
    let ok = rw (row, column) at c.in_ok-may_probe.ensures in
    let at = probing c.args.self.now (map g.K.Sample.parts c.args.samples.now) c.args.row c.args.column (g.K.Sample.parts c.args.new) (sym ok) in
    rw (row, column) (simp length-map at at.within)

pub returns : goal.returns
returns g c =
    let row = to_z-of_z w32 c.args.row c.ranges.row in
    let column = to_z-of_z w32 c.args.column c.ranges.column in
    let ok = rw (row, column) at c.in_ok-may_probe.ensures in
    let k = rw (row, column) at c.index_of-k.ensures.value in
    let panel = rw (row, column) at c.count_probe.ensures in
    record {
      answer = ok;
      panel = rw (← ok) panel;
      after = rw (← ok) (rw k (map-set g.K.Sample.parts c.args.samples.now _ c.args.new));
      same = rw k refl;
    }
