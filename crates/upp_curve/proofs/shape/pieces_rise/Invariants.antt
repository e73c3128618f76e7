use Rattle.std.proofs.Common.{drop}
use Rattle.upp_curve.proofs.PieceLoops.{RisingLoop}
use Rattle.upp_curve.proofs.shape.pieces_rise.Given as goal

abbrev pub invariant-loop-p : goal.invariant-loop-p
invariant-loop-p l = RisingLoop l.fn.end l.fn.first l.fn.rest l.last (drop l.p-index l.rest)
