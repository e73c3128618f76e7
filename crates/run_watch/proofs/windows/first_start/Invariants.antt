use Rattle.std.proofs.Common.{take}
use Rattle.run_watch.specs.WatchTimes.{StartsTo}
use Rattle.run_watch.specs.NearWindows.{IsLeast}
use Rattle.run_watch.proofs.windows.first_start.Given as goal

abbrev pub invariant-loop-s : goal.invariant-loop-s
invariant-loop-s l = IsLeast (StartsTo l.points l.b (take l.s-index l.segments)) l.first
