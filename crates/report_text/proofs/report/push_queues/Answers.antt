use Rattle.std.specs.List.{flat_map, range_with_len}
use Rattle.net_cells.proofs.Growing.{behind, flat_more}
use Rattle.report_text.specs.Report.{queue_line}
use Rattle.report_text.proofs.report.push_queues.Goals as goal

pub loop-queue-preserved : goal.loop-queue-preserved
loop-queue-preserved g c =
    let f = queue_line c.server_name-name.result.now (g.T.Table.at c.args.table.now) c.args.server in
    let q = c.loop-queue.queue in
    behind c.args.into.now.items c.loop-queue.into.items c.push_queue_line.new.into.items _
    (flat_map f (range_with_len 0 q)) _ c.loop-queue.invariant c.in_ok-push_queue_line.ensures (flat_more f q)
