use Rattle.std.proofs.Common.{◌≡◌, ◌++◌, drop}
use Rattle.run_watch.specs.Watching.{stretches_in}
use Rattle.run_watch.proofs.watched.stretches_of.Given as goal

abbrev pub invariant-loop-r : goal.invariant-loop-r
invariant-loop-r l =
    l.found.items ++ stretches_in l.w l.stops (drop l.r-index l.w.arrivals.items) ≡ stretches_in l.w l.stops l.w.arrivals.items
