use Rattle.std.proofs.Common.{◌≡◌, ◌≤◌, ◌+◌, drop}
use Rattle.csv_rows.specs.Places.{state_of}
use Rattle.csv_rows.specs.Rows.{line_ends}
use Rattle.csv_rows.specs.declared.lines.Place.TheVariants as places
use Rattle.csv_rows.proofs.RowEnds.{ReadsFrom}
use Rattle.csv_rows.proofs.lines.over_row.Given as goal

abbrev pub invariant-loop-at : goal.invariant-loop-at
invariant-loop-at l = record {
  reads : ReadsFrom l.text (state_of l.place) (drop l.at l.text);
  first : l.place ≡ places.Between → l.at ≡ 0;
  counted : l.lines + line_ends (drop l.at l.text) ≡ line_ends l.text;
  few : l.lines ≤ l.at;
}
