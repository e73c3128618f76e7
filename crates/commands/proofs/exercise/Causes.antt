-- Each status of a reply has its cause.
use Rattle.std.proofs.Common.{ℕ, length, inl, inr}
use Rattle.net_cells.specs.Meanings.{CellTable}
use Rattle.command_replies.specs.Replies.{Reply}
use Rattle.outcomes.specs.Stages.{stops, goes_on}
use Rattle.command_replies.proofs.Causes.{wide, report, on_cell_over}
use Rattle.command_replies.proofs.Statuses.{status_is}
use Rattle.command_replies.proofs.run_findings.Reports.{is_report}
use Rattle.exercise_load.specs.Workloads.{network_of, trace_of}
use Rattle.exercise_load.specs.exercise_report.Summary.{summary_of}
use Rattle.commands.specs.exercise.OnSeeds.{IsAnalysed, IsSummarised, IsReplyBeside}
use Rattle.commands.specs.exercise.Laws.{HasCause, StatusesHaveCauses}

-- beside a table
beside : (seed : ℕ) (at : CellTable) (reply : Reply) → IsAnalysed (network_of seed) at → IsReplyBeside seed at reply
    → HasCause seed reply
beside seed at reply analysed (inl over) =
    wide reply (status_is reply _ over.is) (inr record { at = at; analysed = analysed; over = over })
beside seed at reply analysed (inr told) =
    let shown : IsSummarised seed reply = record { at = at; analysed = analysed; report = told } in
    let is = is_report (summary_of seed) (network_of seed) told.run (length (trace_of seed).packets) at reply told.tells in
    report reply is shown shown

pub causes : StatusesHaveCauses
causes seed reply (order, o, stops h) =
    on_cell_over reply (network_of seed) order h (λ k. (order, o, k)) (λ k. inl (order, o, k))
causes seed reply (order, o, goes_on at table (curves, told)) =
    beside seed at reply
    record { curves = curves; order = order; ordered = o; answers = table.answers; meets = table.meets } told
