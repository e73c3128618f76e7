use Rattle.std.proofs.Common.{subst, sym, ◌∙◌}
use Rattle.upp_curve.specs.Curves.{IsCurve}
use Rattle.min_plus.specs.Functions.{zero_q}
use Rattle.subadd_closure.specs.ElementCurves.{level_closure}
use Rattle.subadd_closure.proofs.SegmentAnswers.{formed, single_is, single_made}
use Rattle.subadd_closure.proofs.segments.single.Goals as goal

pub from_normal-requires : goal.from_normal-requires
from_normal-requires c =
    subst IsCurve (sym (single_is c.args.a c.args.line.now c.in_ok-pieces.pieces.items c.in_ok-pieces.ensures))
    (single_made c.args.a c.args.line.now c.requires.reads c.requires.normal)

pub returns : goal.returns
returns c =
    formed (level_closure c.args.a zero_q c.args.line.now 0) c.from_normal.result
    (c.from_normal.ensures ∙ single_is c.args.a c.args.line.now c.in_ok-pieces.pieces.items c.in_ok-pieces.ensures)
    (single_made c.args.a c.args.line.now c.requires.reads c.requires.normal)
