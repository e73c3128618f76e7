use Rattle.subadd_closure.proofs.TurnSteps.{IsGrowing}
use Rattle.subadd_closure.proofs.stretches.add_stretches.Given as goal

abbrev pub invariant-loop-i : goal.invariant-loop-i
invariant-loop-i l = IsGrowing l.a l.b l.line l.m l.i l.pieces.items l.fn.pieces.items
