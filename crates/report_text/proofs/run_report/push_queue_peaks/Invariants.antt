use Rattle.std.proofs.Common.{◌≡◌, ◌++◌, map}
use Rattle.std.specs.List.{flat_map, range_with_len}
use Rattle.report_text.specs.RunReport.{peak_line}
use Rattle.report_text.proofs.run_report.push_queue_peaks.Given as goal

abbrev pub invariant-loop-queue : goal.invariant-loop-queue
invariant-loop-queue g l =
    l.into.items
    ≡ l.initial.into.items ++ flat_map (peak_line l.name (g.T.Table.at l.table) (map (λ row. row.items) l.peaks) l.server) (range_with_len 0 l.queue)
