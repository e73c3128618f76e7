use Rattle.std.proofs.Common.{◌≡◌, drop}
use Rattle.csv.specs.Records.{fields_of}
use Rattle.input_texts.specs.table_text.Rows.{is_plain}
use Rattle.input_texts.proofs.table_text.rows.is_plain.Given as goal

abbrev pub invariant-loop-field : goal.invariant-loop-field
invariant-loop-field l = record {
  same : l.field-iterator.row.now ≡ l.row;
  rest : is_plain (fields_of l.row) ≡ is_plain (drop l.field-iterator.at (fields_of l.row));
}
