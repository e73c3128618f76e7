use Rattle.std.proofs.Common.{◌<◌, ◌≤◌}
use Rattle.curve_deviation.specs.Stages.{HasReached}
use Rattle.curve_deviation.proofs.horizontals.fewer_periods.Given as goal

abbrev pub invariant-loop-k : goal.invariant-loop-k
invariant-loop-k l = record { few : l.k ≤ l.first; reached : l.k < l.first → HasReached l.k l.level l.f l.g 0 }

abbrev pub decreases-loop-k : goal.decreases-loop-k
decreases-loop-k l = l.k
