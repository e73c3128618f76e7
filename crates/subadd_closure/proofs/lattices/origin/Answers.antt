use Rattle.std.proofs.Common.{subst, sym, ◌∙◌}
use Rattle.upp_curve.specs.Curves.{IsCurve}
use Rattle.subadd_closure.proofs.LatticeCurves.{origin_is_curve, origin_made}
use Rattle.subadd_closure.proofs.lattices.origin.Goals as goal

pub from_normal-requires : goal.from_normal-requires
from_normal-requires c =
    subst IsCurve (sym (origin_made c.zero-rank.result c.in_ok-pieces.pieces.items c.zero-rank.ensures c.in_ok-pieces.ensures.items)) origin_is_curve

pub returns : goal.returns
returns c =
    c.from_normal.ensures ∙ origin_made c.zero-rank.result c.in_ok-pieces.pieces.items c.zero-rank.ensures c.in_ok-pieces.ensures.items
