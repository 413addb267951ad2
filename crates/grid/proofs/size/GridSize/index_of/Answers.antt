-- A place that the grid has leads to an index, and back.
use Rattle.std.proofs.Common.{Some, sym, ap, ◌∙◌}
use Rattle.grid.specs.Place.{place_on}
use Rattle.grid.proofs.Places.{on_told, index_is, place_back}
use Rattle.grid.proofs.size.GridSize.index_of.Goals as goal

pub returns-then-has : goal.returns-then-has
returns-then-has c =
    let on = on_told c.args.self c.args.place (sym c.if-has.ensures) in
    record {
      value = ap Some c.index.ensures ∙ sym (index_is c.args.self c.args.place on);
      back = ap (place_on c.args.self) c.index.ensures ∙ place_back c.args.self c.args.place on;
    }
