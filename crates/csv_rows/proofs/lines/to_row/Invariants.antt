use Rattle.std.proofs.Common.{◌≡◌, ◌≤◌, ◌+◌, drop}
use Rattle.csv_rows.specs.Rows.{from_row, line_ends}
use Rattle.csv_rows.proofs.lines.to_row.Given as goal

abbrev pub invariant-loop-at : goal.invariant-loop-at
invariant-loop-at l = record {
  row : from_row l.text ≡ from_row (drop l.at l.text);
  counted : l.lines + line_ends (drop l.at l.text) ≡ line_ends l.text;
  few : l.lines ≤ l.at;
}
