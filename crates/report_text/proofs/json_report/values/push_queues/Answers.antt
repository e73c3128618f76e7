use Rattle.std.proofs.Common.{ℕ, ◌+◌, [], ◌∷◌, ◌++◌, map, ap, ◌∙◌, arith}
use Rattle.std.specs.List.{range_with_len}
use Rattle.std.proofs.lemmas.List.FromFn.{map-range_with_len_more}
use Rattle.net_cells.proofs.Growing.{behind}
use Rattle.serde_json.specs.Data.{Data}
use Rattle.serde_json.specs.View.{view}
use Rattle.report_text.specs.json_report.ReportData.{queue_data}
use Rattle.report_text.proofs.json_report.values.push_queues.Goals as goal

pub loop-queue-preserved : goal.loop-queue-preserved
loop-queue-preserved g c =
    let f : ℕ → Data = queue_data c.server_name-name.result.now (g.T.Table.at c.args.table.now) c.args.server in
    let n = c.loop-queue.queue in
    behind (map view c.args.into.now.items) (map view c.loop-queue.into.items) (map view c.push_value.new.into.items)
    (f n ∷ []) (map f (range_with_len 0 n)) (map f (range_with_len 0 (n + 1))) c.loop-queue.invariant
    (c.in_ok-push_value.ensures
    ∙ ap (λ (d : Data). map view c.loop-queue.into.items ++ d ∷ []) c.in_ok-queue_value.ensures)
    (map-range_with_len_more f 0 n n (omega arith))
