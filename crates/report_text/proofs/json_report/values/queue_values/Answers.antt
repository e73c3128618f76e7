use Rattle.std.proofs.Common.{List, ◌++◌, ap, sym, ◌∙◌, ◌≡◌, length, map, arith, subst}
use Rattle.std.proofs.lemmas.List.{length-map}
use Rattle.std.specs.List.{flat_map, range_with_len}
use Rattle.net_cells.proofs.Growing.{flat_more}
use Rattle.serde_json.specs.Data.{Data}
use Rattle.report_text.specs.json_report.ReportData.{server_queues}
use Rattle.serde_json.specs.View.{view}
use Rattle.net_model.specs.Views.{server_of}
use Rattle.report_text.proofs.json_report.values.queue_values.Goals as goal

pub loop-number-preserved : goal.loop-number-preserved
loop-number-preserved g c =
    let n = c.loop-number.number in
    let at = g.T.Table.at c.args.table.now in
    c.in_ok-push_queues.ensures
    ∙ ap (λ (xs : List Data). xs ++ server_queues c.args.net.now at n) c.loop-number.invariant
    ∙ sym (flat_more (server_queues c.args.net.now at) n)

pub returns : goal.returns
returns g c =
    let f = server_queues c.args.net.now (g.T.Table.at c.args.table.now) in
    let all : c.loop-number.number ≡ length c.args.net.now.servers =
    omega (arith, ap length c.servers-servers.ensures.servers, length-map c.servers-servers.result.now server_of) in
    subst (λ n. map view c.loop-number.values.items ≡ flat_map f (range_with_len 0 n)) all c.loop-number.invariant
