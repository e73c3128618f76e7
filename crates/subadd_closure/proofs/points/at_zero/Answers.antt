use Rattle.std.proofs.Common.{subst, sym}
use Rattle.upp_curve.specs.Curves.{IsCurve}
use Rattle.subadd_closure.proofs.PointAnswers.{zero_is, zero_curve}
use Rattle.subadd_closure.proofs.points.at_zero.Goals as goal

pub from_normal-requires : goal.from_normal-requires
from_normal-requires c =
    subst IsCurve (sym (zero_is c.zero-rank.result c.args.v c.in_ok-pieces.pieces.items c.zero-rank.ensures c.in_ok-pieces.ensures.items)) (zero_curve c.args.v)
