use Rattle.std.proofs.Common.{◌≡◌, ◌-◌, ◌≤◌, drop}
use Rattle.panel.specs.Calls.{parts_within}
use Rattle.panel.proofs.checks.parts_within.Given as goal

abbrev pub invariant-loop-part : goal.invariant-loop-part
invariant-loop-part g l = record {
  counted : 1 ≤ l.part;
  so_far : parts_within l.place.row l.place.column l.part (drop (l.part - 1) (g.K.Sample.parts l.sample)) ≡ parts_within l.place.row l.place.column 1 (g.K.Sample.parts l.sample);
}
