use Rattle.arrival_lines.proofs.Joined.{AreJoinedTo}
use Rattle.arrival_lines.proofs.turns.joined.Given as goal

abbrev pub invariant-loop-turn : goal.invariant-loop-turn
invariant-loop-turn l = AreJoinedTo l.turns l.turn-index l.all.items
