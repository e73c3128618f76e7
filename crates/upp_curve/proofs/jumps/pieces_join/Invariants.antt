use Rattle.std.proofs.Common.{drop}
use Rattle.upp_curve.proofs.JoinLoops.{JoinLoop}
use Rattle.upp_curve.proofs.jumps.pieces_join.Given as goal

abbrev pub invariant-loop-p : goal.invariant-loop-p
invariant-loop-p l = JoinLoop l.fn.end l.fn.first l.fn.rest l.last (drop l.p-index l.rest)
