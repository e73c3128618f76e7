-- The steps of an answer on a network and a trace.
use Rattle.std.proofs.Common.{ℕ, List}
use Rattle.net_model.specs.Accepted.{IsAccepted}
use Rattle.net_model.specs.Networks.{Net}
use Rattle.net_model.specs.Traces.{SpecTrace}
use Rattle.input_texts.specs.table_text.Rows.{rows_of}
use Rattle.input_texts.specs.table_text.Traces.{IsTraceOf}
use Rattle.input_texts.proofs.table_text.OneTrace.{no_trace}
use Rattle.command_replies.specs.run_findings.CellCounts.{CountsOnCells}
use Rattle.commands.specs.simulate.RunCounts.{CountsOnNet}

-- those of a trace that a file gives
pub of_trace : (net : Net) (trace_bytes : List ℕ) (trace : SpecTrace) (status old new : ℕ) → IsAccepted net
    → IsTraceOf net (rows_of trace_bytes) trace → CountsOnCells net status old new
    → CountsOnNet net trace_bytes status old new
of_trace net trace_bytes trace status old new a reads cells = record {
  cells = cells;
  refused = λ kind row first. absurd (no_trace net trace_bytes kind row trace a first reads);
}
