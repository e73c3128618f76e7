use Rattle.subadd_closure.specs.Ordered.{IsOrderTime}
use Rattle.subadd_closure.proofs.ordered.earliest_order.Given as goal

abbrev pub invariant-loop-turn : goal.invariant-loop-turn
invariant-loop-turn l = IsOrderTime l.slow l.fast l.from l.own l.end l.early
