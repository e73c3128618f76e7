use Rattle.arrival_stairs.proofs.Swept.{IsSwept}
use Rattle.arrival_stairs.proofs.walk.heights_until.Given as goal

abbrev pub invariant-loop-turn : goal.invariant-loop-turn
invariant-loop-turn l = IsSwept l.bundles l.turn-items l.end l.turn-index l.begin l.on l.off l.heights.items
