use Rattle.std.proofs.Common.{map, ◌≡◌, ◌++◌, length, arith, ap, subst}
use Rattle.std.specs.List.{flat_map, range_with_len}
use Rattle.std.proofs.lemmas.List.{length-map}
use Rattle.net_cells.proofs.Growing.{behind, flat_more}
use Rattle.report_text.specs.RunReport.{peak_lines}
use Rattle.net_model.specs.Views.{server_of}
use Rattle.report_text.proofs.run_report.push_peaks.Goals as goal

pub loop-number-preserved : goal.loop-number-preserved
loop-number-preserved g c =
    let f = peak_lines c.args.net.now (g.T.Table.at c.args.table.now) (map (λ row. row.items) c.args.peaks.now) in
    let n = c.loop-number.number in
    behind c.args.into.now.items c.loop-number.into.items c.push_queue_peaks.new.into.items _
    (flat_map f (range_with_len 0 n)) _ c.loop-number.invariant c.in_ok-push_queue_peaks.ensures (flat_more f n)

pub returns : goal.returns
returns g c =
    let f = peak_lines c.args.net.now (g.T.Table.at c.args.table.now) (map (λ row. row.items) c.args.peaks.now) in
    let all : c.loop-number.number ≡ length c.args.net.now.servers =
    omega (arith, ap length c.servers-servers.ensures.servers, length-map c.servers-servers.result.now server_of) in
    subst (λ n. c.loop-number.into.items ≡ c.args.into.now.items ++ flat_map f (range_with_len 0 n)) all c.loop-number.invariant
