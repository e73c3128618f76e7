use Rattle.std.proofs.Common.{sym, subst}
use Rattle.rational.specs.Rational.{◌≤ℚ◌}
use Rattle.upp_curve.specs.affine_segment.Pieces.{Each}
use Rattle.upp_curve.specs.Unrolled.{upto}
use Rattle.subadd_closure.specs.Thinned.{LiesUnder}
use Rattle.subadd_closure.proofs.ThinnedElements.{slice_is, slice_under}
use Rattle.rational.proofs.Compared.{least_by_test}
use Rattle.subadd_closure.proofs.thinned.segment_over.Goals as goal

pub returns : goal.returns
returns c h t late past early =
    slice_under c.args.line.now c.args.from c.args.to t c.args.pieces.now c.args.k c.index-pieces-k.result
    c.if-k-pieces.false c.index-pieces-k.is c.requires.starts
    (subst (λ p. p.x ≤ℚ c.args.from) (sym c.index-pieces-k.is) (least_by_test _ _ c.if-is_less.ensures.less)) late past early
    (subst (λ ps. Each (LiesUnder c.args.line.now c.args.from c.args.to) (upto c.args.to ps)) (slice_is c.args.pieces.now c.args.k)
    (c.all_under.ensures h))
