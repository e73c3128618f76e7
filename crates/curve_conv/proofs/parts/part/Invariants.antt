use Rattle.curve_conv.specs.Scans.{sizes_in}
use Rattle.curve_conv.proofs.PartLoops.{PartWalk}
use Rattle.curve_conv.proofs.GridSteps.{steps_while}
use Rattle.curve_conv.proofs.parts.part.Given as goal

abbrev pub invariant-cells : goal.invariant-cells
invariant-cells l = PartWalk (sizes_in l.s.first.now l.s.second.now l.s.end) l.s.first.now l.s.second.now l.fn.from l.until l.low l.limit l.s.end l.t l.least l.more l.x

abbrev pub decreases-cells : goal.decreases-cells
decreases-cells l = steps_while l.more (sizes_in l.s.first.now l.s.second.now l.s.end).dt l.limit l.x
