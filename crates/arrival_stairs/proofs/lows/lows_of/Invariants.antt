use Rattle.arrival_stairs.proofs.Lowest.{AreLowsSoFar}
use Rattle.arrival_stairs.proofs.lows.lows_of.Given as goal

abbrev pub invariant-loop-i : goal.invariant-loop-i
invariant-loop-i l = AreLowsSoFar l.steps l.end l.i l.least l.lows.items
