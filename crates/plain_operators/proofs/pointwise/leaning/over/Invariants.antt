use Rattle.plain_operators.specs.pointwise.Leaning.{IsOverUntil}
use Rattle.plain_operators.proofs.pointwise.leaning.over.Given as goal

abbrev pub invariant-loop-step : goal.invariant-loop-step
invariant-loop-step l = IsOverUntil l.c l.from l.end l.rate l.reached
