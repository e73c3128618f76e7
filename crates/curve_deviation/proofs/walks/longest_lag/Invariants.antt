use Rattle.upp_curve.specs.Curve.{value_at}
use Rattle.curve_deviation.specs.Sights.{Sees}
use Rattle.curve_deviation.proofs.Walk.{IsWalked, steps_left}
use Rattle.curve_deviation.proofs.walks.longest_lag.Given as goal

abbrev pub ghost-sight_after : goal.ghost-sight_after
ghost-sight_after g a = g.sizes

abbrev pub invariant-loop-until : goal.invariant-loop-until
invariant-loop-until g l = IsWalked g.sizes (value_at l.f) (value_at l.g) l.until l.end l.walk × Sees g.sizes (value_at l.f) (value_at l.g) l.walk l.until l.end l.sight

abbrev pub decreases-loop-until : goal.decreases-loop-until
decreases-loop-until g l = steps_left g.sizes l.until l.end l.walk
