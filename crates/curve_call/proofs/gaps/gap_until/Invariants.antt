use Rattle.curve_call.proofs.GapWalk.{GapWalk, steps_left}
use Rattle.curve_call.proofs.gaps.gap_until.Given as goal

abbrev pub invariant-loop-end : goal.invariant-loop-end
invariant-loop-end l = GapWalk l.f l.g l.fn.from l.end l.t l.gap

abbrev pub decreases-loop-end : goal.decreases-loop-end
decreases-loop-end l = steps_left l.f l.g l.fn.from l.end l.t
