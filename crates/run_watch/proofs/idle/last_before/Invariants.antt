use Rattle.run_watch.specs.Searches.{IsCut}
use Rattle.run_watch.proofs.idle.last_before.Given as goal

abbrev pub invariant-loop-t : goal.invariant-loop-t
invariant-loop-t l = IsCut l.own l.fn.start l.end l.last
