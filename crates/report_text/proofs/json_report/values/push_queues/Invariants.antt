use Rattle.std.proofs.Common.{◌≡◌, ◌++◌, map}
use Rattle.std.specs.List.{range_with_len}
use Rattle.serde_json.specs.View.{view}
use Rattle.report_text.specs.json_report.ReportData.{queue_data}
use Rattle.report_text.proofs.json_report.values.push_queues.Given as goal

abbrev pub invariant-loop-queue : goal.invariant-loop-queue
invariant-loop-queue g l =
    map view l.into.items
    ≡ map view l.initial.into.items
    ++ map (queue_data l.name (g.T.Table.at l.table) l.server) (range_with_len 0 l.queue)
