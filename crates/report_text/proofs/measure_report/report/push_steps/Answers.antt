use Rattle.std.proofs.Common.{◌++◌}
use Rattle.std.specs.List.{flat_map}
use Rattle.report_text.specs.measure_report.MeasureReport.{step_line}
use Rattle.report_text.proofs.measure_report.Flat.{more_flat, all_flat}
use Rattle.report_text.proofs.measure_report.report.push_steps.Goals as goal

pub loop-piece-preserved : goal.loop-piece-preserved
loop-piece-preserved c =
    more_flat step_line c.args.pieces.now c.loop-piece.piece-index c.piece-item.result c.loop-piece.into.items c.push_step_line.new.into.items
    (c.args.into.now.items ++ flat_map step_line c.args.pieces.now) c.loop-piece-test.true c.piece-item.is c.in_ok-push_step_line.ensures c.loop-piece.invariant

pub returns : goal.returns
returns c =
    all_flat step_line c.args.pieces.now c.loop-piece.piece-index c.loop-piece.into.items (c.args.into.now.items ++ flat_map step_line c.args.pieces.now) c.loop-piece-test.false c.loop-piece.invariant
