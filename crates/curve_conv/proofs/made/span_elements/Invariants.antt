use Rattle.curve_conv.specs.Scans.{sizes_in}
use Rattle.curve_conv.proofs.SpanLoops.{SpanWalk}
use Rattle.curve_conv.proofs.GridSteps.{steps_while}
use Rattle.curve_conv.proofs.made.span_elements.Given as goal

abbrev pub invariant-cells : goal.invariant-cells
invariant-cells l =
    SpanWalk (sizes_in l.s.first.now l.s.second.now l.s.end) l.c l.fn.from l.until l.limit l.s.end l.elements.items l.more l.x

abbrev pub decreases-cells : goal.decreases-cells
decreases-cells l = steps_while l.more (sizes_in l.s.first.now l.s.second.now l.s.end).dt l.limit l.x
