use Rattle.run_watch.proofs.ClassTimes.{AreLed}
use Rattle.run_watch.proofs.classes.not_led.Given as goal

abbrev pub invariant-loop-t : goal.invariant-loop-t
invariant-loop-t l = AreLed l.side l.end l.period l.times l.found.items l.t-index
