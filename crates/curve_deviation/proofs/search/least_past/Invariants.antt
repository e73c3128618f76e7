use Rattle.curve_deviation.proofs.Searching.{IsHalved}
use Rattle.curve_deviation.proofs.search.least_past.Given as goal

abbrev pub invariant-loop-width : goal.invariant-loop-width
invariant-loop-width l = IsHalved l.stage l.f l.g l.low l.width

abbrev pub decreases-loop-width : goal.decreases-loop-width
decreases-loop-width l = l.width
