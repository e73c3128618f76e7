use Rattle.upp_normal.proofs.NormaliseLoops.{CopiesOn}
use Rattle.upp_normal.proofs.two_periods.two_periods.Given as goal

abbrev pub invariant-loop-i : goal.invariant-loop-i
invariant-loop-i l = CopiesOn l.fn.given.items l.pieces.items l.fn.rank l.fn.period l.fn.rise l.i
