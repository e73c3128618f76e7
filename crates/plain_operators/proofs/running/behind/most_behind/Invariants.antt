use Rattle.curve_call.proofs.GapWalk.{steps_left}
use Rattle.plain_operators.proofs.running.BehindWalk.{BehindWalk}
use Rattle.plain_operators.proofs.running.behind.most_behind.Given as goal

abbrev pub invariant-loop-theta : goal.invariant-loop-theta
invariant-loop-theta l = BehindWalk l.beta l.cross l.theta l.fn.from l.end l.t l.most

abbrev pub decreases-loop-theta : goal.decreases-loop-theta
decreases-loop-theta l = steps_left l.beta l.beta l.fn.from l.end l.t
