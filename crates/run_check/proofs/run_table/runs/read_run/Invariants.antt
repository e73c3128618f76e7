use Rattle.std.proofs.Common.{◌≡◌, map, take}
use Rattle.csv.specs.Records.{fields_of}
use Rattle.input_texts.specs.table_text.Rows.{rows_of}
use Rattle.run_check.proofs.run_table.RunSteps.{IsSoFar}
use Rattle.run_check.proofs.run_table.runs.read_run.Given as goal

abbrev pub invariant-loop-before : goal.invariant-loop-before
invariant-loop-before l = record {
  rows : map fields_of l.row-items ≡ take 10001 (rows_of l.text);
  so_far : IsSoFar l.net (map fields_of l.row-items) l.before l.packets l.steps.items;
}
