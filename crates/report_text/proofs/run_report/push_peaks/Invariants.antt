use Rattle.std.proofs.Common.{◌≡◌, ◌++◌, map}
use Rattle.std.specs.List.{flat_map, range_with_len}
use Rattle.report_text.specs.RunReport.{peak_lines}
use Rattle.report_text.proofs.run_report.push_peaks.Given as goal

abbrev pub invariant-loop-number : goal.invariant-loop-number
invariant-loop-number g l =
    l.into.items
    ≡ l.initial.into.items ++ flat_map (peak_lines l.net (g.T.Table.at l.table) (map (λ row. row.items) l.peaks)) (range_with_len 0 l.number)
