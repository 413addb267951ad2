-- Each case of the table.
use Rattle.worked.proofs.Lines.{level_two, slope_two, end_of_three, middle_of_three}
use Rattle.worked.proofs.Panel.{weights, halves_upward, corner_panel, corner_readings}
use Rattle.worked.proofs.worked_values.Goals as goal

pub returns : goal.returns
returns c = record {
  level = level_two;
  slope = slope_two;
  end = end_of_three;
  middle = middle_of_three;
  weights = weights;
  halves = halves_upward;
  corner = corner_panel;
  readings = corner_readings;
}
