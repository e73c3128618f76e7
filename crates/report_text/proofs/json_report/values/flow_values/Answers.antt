use Rattle.std.proofs.Common.{List, ◌++◌, ap, sym, ◌∙◌, ◌≡◌, length, map, arith, subst}
use Rattle.std.proofs.lemmas.List.{length-map}
use Rattle.std.specs.List.{flat_map, range_with_len}
use Rattle.std.specs.Option.{option_map}
use Rattle.net_cells.proofs.Growing.{flat_more}
use Rattle.serde_json.specs.Data.{Data}
use Rattle.report_text.specs.json_report.ReportData.{flow_at_data}
use Rattle.serde_json.specs.View.{view}
use Rattle.net_model.specs.Views.{flow_of}
use Rattle.report_text.proofs.json_report.values.flow_values.Goals as goal

pub loop-number-preserved : goal.loop-number-preserved
loop-number-preserved g c =
    let n = c.loop-number.number in
    let at = g.T.Table.at c.args.table.now in
    c.in_ok-push_flow.ensures
    ∙ ap (λ (xs : List Data). xs ++ flow_at_data c.args.net.now at n) c.loop-number.invariant
    ∙ sym (flat_more (flow_at_data c.args.net.now at) n)

pub returns : goal.returns
returns g c =
    let f = flow_at_data c.args.net.now (g.T.Table.at c.args.table.now) in
    let all : c.loop-number.number ≡ length c.args.net.now.flows =
    omega (arith, ap length c.flows-flows.ensures.flows, length-map c.flows-flows.result.now (option_map flow_of)) in
    subst (λ n. map view c.loop-number.values.items ≡ flat_map f (range_with_len 0 n)) all c.loop-number.invariant
