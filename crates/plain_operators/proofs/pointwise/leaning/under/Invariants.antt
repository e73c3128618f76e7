use Rattle.plain_operators.specs.pointwise.Leaning.{IsUnderUntil}
use Rattle.plain_operators.proofs.pointwise.leaning.under.Given as goal

abbrev pub invariant-loop-step : goal.invariant-loop-step
invariant-loop-step l = IsUnderUntil l.c l.from l.end l.rate l.reached
