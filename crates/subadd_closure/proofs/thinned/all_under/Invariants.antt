use Rattle.std.proofs.Common.{drop}
use Rattle.upp_curve.specs.affine_segment.Pieces.{Each}
use Rattle.upp_curve.specs.Unrolled.{upto}
use Rattle.subadd_closure.specs.Thinned.{LiesUnder}
use Rattle.subadd_closure.proofs.thinned.all_under.Given as goal

abbrev pub invariant-loop-p : goal.invariant-loop-p
invariant-loop-p l =
    Each (LiesUnder l.line l.from l.to) (upto l.to (drop l.p-index l.pieces)) → Each (LiesUnder l.line l.from l.to) (upto l.to l.pieces)
