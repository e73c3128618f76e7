use Rattle.std.proofs.Common.{◌≡◌, ◌++◌, drop}
use Rattle.run_watch.specs.Reaches.{within_reach}
use Rattle.run_watch.proofs.reach.within_reach.Given as goal

abbrev pub invariant-loop-g : goal.invariant-loop-g
invariant-loop-g l = l.found.items ++ within_reach l.reach (drop l.g-index l.segments) ≡ within_reach l.reach l.segments
