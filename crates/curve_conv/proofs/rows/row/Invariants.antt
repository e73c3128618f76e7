use Rattle.curve_conv.specs.Scans.{sizes_in}
use Rattle.curve_conv.proofs.RowLoops.{RowWalk}
use Rattle.curve_conv.proofs.GridSteps.{steps_while}
use Rattle.curve_conv.proofs.rows.row.Given as goal

abbrev pub invariant-cells : goal.invariant-cells
invariant-cells l = RowWalk (sizes_in l.s.first.now l.s.second.now l.s.end) l.s.second.now l.a l.fn.low l.room l.s.end l.t l.least l.more l.y

abbrev pub decreases-cells : goal.decreases-cells
decreases-cells l = steps_while l.more (sizes_in l.s.first.now l.s.second.now l.s.end).dt l.room l.y
