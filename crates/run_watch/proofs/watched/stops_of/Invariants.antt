use Rattle.std.proofs.Common.{◌≡◌, ◌++◌, drop}
use Rattle.run_watch.specs.Watching.{stops_in, stops}
use Rattle.run_watch.proofs.watched.stops_of.Given as goal

abbrev pub invariant-loop-t : goal.invariant-loop-t
invariant-loop-t l = l.found.items ++ stops_in l.w (drop l.t-index l.w.leaves.items) ≡ stops l.w
