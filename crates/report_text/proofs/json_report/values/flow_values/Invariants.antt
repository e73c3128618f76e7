use Rattle.std.proofs.Common.{◌≡◌, map}
use Rattle.std.specs.List.{flat_map, range_with_len}
use Rattle.serde_json.specs.View.{view}
use Rattle.report_text.specs.json_report.ReportData.{flow_at_data}
use Rattle.report_text.proofs.json_report.values.flow_values.Given as goal

abbrev pub invariant-loop-number : goal.invariant-loop-number
invariant-loop-number g l =
    map view l.values.items ≡ flat_map (flow_at_data l.net (g.T.Table.at l.table)) (range_with_len 0 l.number)
