use Rattle.std.proofs.Common.{map}
use Rattle.std.specs.List.{flat_map, range_with_len}
use Rattle.net_cells.proofs.Growing.{behind, flat_more}
use Rattle.report_text.specs.RunReport.{peak_line}
use Rattle.report_text.proofs.run_report.push_queue_peaks.Goals as goal

pub loop-queue-preserved : goal.loop-queue-preserved
loop-queue-preserved g c =
    let f = peak_line c.server_name-name.result.now (g.T.Table.at c.args.table.now) (map (λ row. row.items) c.args.peaks.now) c.args.server in
    let n = c.loop-queue.queue in
    behind c.args.into.now.items c.loop-queue.into.items c.push_peak_line.new.into.items _
    (flat_map f (range_with_len 0 n)) _ c.loop-queue.invariant c.in_ok-push_peak_line.ensures (flat_more f n)
