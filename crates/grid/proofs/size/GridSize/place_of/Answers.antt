-- An index that the grid has leads to a place, and back.
use Rattle.std.proofs.Common.{◌*◌, ◌<◌, Some, sym, ap, ◌∙◌, arith}
use Rattle.std.proofs.lemmas.Bool.{lt-ltb, cond-true}
use Rattle.grid.specs.Place.{index_on}
use Rattle.grid.proofs.Places.{index_back}
use Rattle.grid.proofs.size.GridSize.place_of.Goals as goal

pub returns-then-index-count : goal.returns-then-index-count
returns-then-index-count c =
    let h : c.args.index < c.args.self.rows * c.args.self.columns = omega arith in
    record {
      value = ap Some c.place.ensures ∙ sym (cond-true _ _ _ (lt-ltb _ _ h));
      back = ap (index_on c.args.self) c.place.ensures ∙ index_back c.args.self c.args.index h;
    }
