use Rattle.std.proofs.Common.{refl, subst}
use Rattle.rational.specs.Rational.{◌≤ℚ◌, ◌<ℚ◌}
use Rattle.subadd_closure.proofs.ThinnedElements.{point_is_over, segment_is_over}
use Rattle.upp_curve.specs.affine_segment.Reading.{read}
use Rattle.rational.proofs.Compared.{least_by_test}
use Rattle.subadd_closure.proofs.thinned.is_over.Goals as goal

pub returns-then-is_less : goal.returns-then-is_less
returns-then-is_less c h =
    point_is_over (read c.args.pieces.now) c.args.end c.in-Point.x c.in-Point.v c.args.e.now c.in-Point.is
    (subst (λ z. z <ℚ c.in-Point.x) c.zero.ensures (c.if-is_less.ensures.less.0 refl)) (c.point_over.ensures h)

pub returns-else-is_less-2 : goal.returns-else-is_less-2
returns-else-is_less-2 c h =
    segment_is_over c.args.end c.in-Open.from c.end_within.result c.in-Open.to c.in-Open.line c.args.pieces.now
    c.args.e.now c.in-Open.is
    (subst (λ z. z ≤ℚ c.in-Open.from) c.zero-in-Open.ensures (least_by_test _ _ c.if-is_less-2.ensures.less))
    c.end_within.ensures (c.segment_over.ensures h)
