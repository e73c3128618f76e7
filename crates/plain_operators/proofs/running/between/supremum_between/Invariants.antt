use Rattle.plain_operators.proofs.running.Highest.{BetweenLoop}
use Rattle.plain_operators.proofs.running.between.supremum_between.Given as goal

abbrev pub invariant-loop-i : goal.invariant-loop-i
invariant-loop-i l = BetweenLoop l.ps l.end l.i l.from l.to l.level
