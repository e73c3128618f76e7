use Rattle.plain_operators.proofs.running.InfimumLoop.{InfimumLoop}
use Rattle.plain_operators.proofs.running.infimum.infimum_scan.Given as goal

abbrev pub invariant-loop-i : goal.invariant-loop-i
invariant-loop-i l = InfimumLoop l.ps l.end l.i l.level l.out.items
