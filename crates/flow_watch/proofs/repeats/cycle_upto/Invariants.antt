use Rattle.std.proofs.Common.{ℕ, ◌<◌, drop}
use Rattle.flow_watch.specs.Repeats.{HoldsAt}
use Rattle.flow_watch.proofs.repeats.cycle_upto.Given as goal

abbrev pub invariant-loop-i : goal.invariant-loop-i
invariant-loop-i l = (k : ℕ) → k < l.i → HoldsAt l.cycle.rank l.cycle.period l.cycle.rise l.entries l.end l.least (drop k l.pieces)
