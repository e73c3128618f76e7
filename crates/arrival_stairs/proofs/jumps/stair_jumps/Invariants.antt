use Rattle.arrival_stairs.proofs.Risen.{AreStairJumps}
use Rattle.arrival_stairs.proofs.jumps.stair_jumps.Given as goal

abbrev pub invariant-loop-number : goal.invariant-loop-number
invariant-loop-number l = AreStairJumps l.stair l.end l.first l.number l.initial.jumps.items l.jumps.items
