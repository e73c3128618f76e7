use Rattle.curve_call.proofs.GapWalk.{steps_left}
use Rattle.subadd_closure.proofs.BelowWalk.{BelowWalk}
use Rattle.subadd_closure.proofs.below.is_below.Given as goal

abbrev pub invariant-loop-end : goal.invariant-loop-end
invariant-loop-end l = BelowWalk l.slow l.fast l.fn.from l.end l.t

abbrev pub decreases-loop-end : goal.decreases-loop-end
decreases-loop-end l = steps_left l.slow l.fast l.fn.from l.end l.t
