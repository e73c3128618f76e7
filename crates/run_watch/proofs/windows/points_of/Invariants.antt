use Rattle.std.proofs.Common.{◌≡◌, take, map}
use Rattle.run_watch.specs.WatchTimes.{point_at}
use Rattle.run_watch.proofs.windows.points_of.Given as goal

abbrev pub invariant-loop-t : goal.invariant-loop-t
invariant-loop-t l = l.points.items ≡ map (point_at l.works) (take l.t-index l.times)
