-- The steps of an answer on a network and a recorded run.
use Rattle.std.proofs.Common.{ℕ, List}
use Rattle.net_model.specs.Accepted.{IsAccepted}
use Rattle.net_model.specs.Networks.{Net}
use Rattle.run_laws.specs.Runs.{SpecRun}
use Rattle.input_texts.specs.table_text.Rows.{rows_of}
use Rattle.run_check.specs.run_table.Runs.{IsRunOf}
use Rattle.run_check.proofs.run_table.OneRun.{readings_are_one}
use Rattle.command_replies.specs.run_findings.CellCounts.{CountsOnCells}
use Rattle.commands.specs.check.CheckCounts.{CountsOnNet}

-- those of a run that a file gives
pub of_run : (net : Net) (run_bytes : List ℕ) (run : SpecRun) (status old new : ℕ) → IsAccepted net
    → IsRunOf net (rows_of run_bytes) run → CountsOnCells net status old new
    → CountsOnNet net run_bytes status old new
of_run net run_bytes run status old new a reads cells = record {
  cells = cells;
  refused = λ kind row first. absurd ((readings_are_one net run_bytes a).not_both run kind row reads first);
}
