use Rattle.std.proofs.Common.{◌≡◌, ◌++◌}
use Rattle.std.specs.List.{flat_map, range_with_len}
use Rattle.report_text.specs.Report.{queue_line}
use Rattle.report_text.proofs.report.push_queues.Given as goal

abbrev pub invariant-loop-queue : goal.invariant-loop-queue
invariant-loop-queue g l =
    l.into.items
    ≡ l.initial.into.items ++ flat_map (queue_line l.name (g.T.Table.at l.table) l.server) (range_with_len 0 l.queue)
