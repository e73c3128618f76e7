use Rattle.std.proofs.Common.{◌≡◌, ◌++◌}
use Rattle.upp_curve.specs.Unrolled.{copies, from, upto}
use Rattle.upp_normal.proofs.unrolling.with_copies.Given as goal

abbrev pub invariant-loop-n : goal.invariant-loop-n
invariant-loop-n l = l.kept.items ≡ upto l.end (upto l.fn.rank l.pieces ++ copies l.n l.period l.rise (from l.fn.rank l.pieces))
