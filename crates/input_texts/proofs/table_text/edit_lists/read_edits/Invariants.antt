use Rattle.std.proofs.Common.{◌≡◌, map, take}
use Rattle.csv.specs.Records.{fields_of}
use Rattle.input_texts.specs.table_text.Rows.{rows_of}
use Rattle.input_texts.specs.table_text.EditRows.{edit_view}
use Rattle.input_texts.specs.table_text.EditLists.{AreEditsOf}
use Rattle.input_texts.proofs.table_text.edit_lists.read_edits.Given as goal

abbrev pub invariant-loop-before : goal.invariant-loop-before
invariant-loop-before l = record {
  rows : map fields_of l.row-items ≡ take 1001 (rows_of l.text);
  edits : AreEditsOf (take l.before (map fields_of l.row-items)) (map edit_view l.edits.items);
}
