use Rattle.std.proofs.Common.{◌≡◌, ◌++◌}
use Rattle.std.specs.List.{flat_map, range_with_len}
use Rattle.report_text.specs.RunReport.{worst_lines}
use Rattle.report_text.proofs.run_report.push_worsts.Given as goal

abbrev pub invariant-loop-number : goal.invariant-loop-number
invariant-loop-number g l =
    l.into.items
    ≡ l.initial.into.items ++ flat_map (worst_lines l.net (g.T.Table.at l.table) l.worst) (range_with_len 0 l.number)
