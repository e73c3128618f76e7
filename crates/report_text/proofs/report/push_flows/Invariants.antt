use Rattle.std.proofs.Common.{◌≡◌, ◌++◌}
use Rattle.std.specs.List.{flat_map, range_with_len}
use Rattle.report_text.specs.Report.{flow_lines}
use Rattle.report_text.proofs.report.push_flows.Given as goal

abbrev pub invariant-loop-number : goal.invariant-loop-number
invariant-loop-number g l =
    l.into.items
    ≡ l.initial.into.items ++ flat_map (flow_lines l.net (g.T.Table.at l.table)) (range_with_len 0 l.number)
