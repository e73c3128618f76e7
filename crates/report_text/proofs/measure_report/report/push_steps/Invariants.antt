use Rattle.std.proofs.Common.{◌≡◌, ◌++◌, drop}
use Rattle.std.specs.List.{flat_map}
use Rattle.report_text.specs.measure_report.MeasureReport.{step_line}
use Rattle.report_text.proofs.measure_report.report.push_steps.Given as goal

-- the lines so far, and those of the pieces that are left, are all
abbrev pub invariant-loop-piece : goal.invariant-loop-piece
invariant-loop-piece l =
    l.into.items ++ flat_map step_line (drop l.piece-index l.pieces) ≡ l.initial.into.items ++ flat_map step_line l.pieces
