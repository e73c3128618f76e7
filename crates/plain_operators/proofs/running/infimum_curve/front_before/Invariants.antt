use Rattle.plain_operators.proofs.running.Fronts.{FrontLoop}
use Rattle.plain_operators.proofs.running.infimum_curve.front_before.Given as goal

abbrev pub invariant-loop-p : goal.invariant-loop-p
invariant-loop-p l = FrontLoop l.pieces l.end l.p-index l.front.items
