use Rattle.std.proofs.Common.{◌≡◌, ◌++◌, length, arith, ap, subst}
use Rattle.std.specs.List.{flat_map, range_with_len}
use Rattle.std.proofs.lemmas.List.{length-map}
use Rattle.std.specs.Option.{option_map}
use Rattle.net_cells.proofs.Growing.{behind, flat_more}
use Rattle.report_text.specs.RunReport.{worst_lines}
use Rattle.net_model.specs.Views.{flow_of}
use Rattle.report_text.proofs.run_report.push_worsts.Goals as goal

pub loop-number-preserved : goal.loop-number-preserved
loop-number-preserved g c =
    let f = worst_lines c.args.net.now (g.T.Table.at c.args.table.now) c.args.worst.now in
    let n = c.loop-number.number in
    behind c.args.into.now.items c.loop-number.into.items c.push_live_worst.new.into.items _
    (flat_map f (range_with_len 0 n)) _ c.loop-number.invariant c.in_ok-push_live_worst.ensures (flat_more f n)

pub returns : goal.returns
returns g c =
    let f = worst_lines c.args.net.now (g.T.Table.at c.args.table.now) c.args.worst.now in
    let all : c.loop-number.number ≡ length c.args.net.now.flows =
    omega (arith, ap length c.flows-flows.ensures.flows, length-map c.flows-flows.result.now (option_map flow_of)) in
    subst (λ n. c.loop-number.into.items ≡ c.args.into.now.items ++ flat_map f (range_with_len 0 n)) all c.loop-number.invariant
