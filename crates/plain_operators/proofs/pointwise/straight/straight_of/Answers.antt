use Rattle.std.proofs.Common.{sym, subst}
use Rattle.upp_curve.specs.affine_segment.Pieces.{StartsAtZero}
use Rattle.plain_operators.proofs.pointwise.straight.straight_of.Goals as goal

pub one_line-requires : goal.one_line-requires
one_line-requires c = subst StartsAtZero (sym c.pieces.ensures.pieces) c.pieces.ensures.kept.normal.raw.starts
