use Rattle.plain_operators.proofs.running.SupremumLoop.{SupremumLoop}
use Rattle.plain_operators.proofs.running.supremum.supremum_scan.Given as goal

abbrev pub invariant-loop-i : goal.invariant-loop-i
invariant-loop-i l = SupremumLoop l.ps l.end l.i l.level l.out.items
